-- The decoder of bytes into units: what it reads and writes; its state is the byte decoder's
pub mod State
-- Feed and finish: the shared promises, of the decoder of bytes into units. Start is the byte decoder's
pub mod Feeding
