-- What private steps promise each other
pub mod Inside
