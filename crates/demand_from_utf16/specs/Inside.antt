-- What the caller has between two feeds
pub mod Feeding
