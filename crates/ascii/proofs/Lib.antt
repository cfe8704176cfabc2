-- The bytes below 0x80 at the start of a text: one more, a block more, and where they end
pub mod Leading
