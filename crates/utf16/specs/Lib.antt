-- UTF-16: the well-formed units and pairs, and the reader of texts of units
pub mod Units
-- The number that a unit or a pair stands for, and the unit or the pair of a scalar value
pub mod Scalar
-- Units that stand alone: none is a half of a pair
pub mod Alone
