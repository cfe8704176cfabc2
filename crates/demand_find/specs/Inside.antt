-- An offset at which a lookup by bytes grants a place
pub mod Found
