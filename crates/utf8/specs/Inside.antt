-- What the class of a first byte tells the reader's code: how many bytes are wanted behind it, and of which classes
pub mod Lead
