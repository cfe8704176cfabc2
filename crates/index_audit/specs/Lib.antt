-- What the audit says of a text and an index
pub mod Audits
