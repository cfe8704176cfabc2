-- Units as bytes: a block of alone units is a pass
pub mod BlocksArePasses
