-- Where halves stand in pairs there is no damage: what is passed over are whole segments
pub mod PairedIsWhole
