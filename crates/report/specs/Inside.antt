-- What a turn of the report's loop has done: where there is more to read it has taken bytes, within the limit, and else none
pub mod Going
