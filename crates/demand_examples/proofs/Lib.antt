-- THE MARKED EXAMPLES HOLD, by computation
pub mod Computed
