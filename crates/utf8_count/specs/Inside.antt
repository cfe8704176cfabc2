-- How a part's line ends are counted quickly
pub mod Ends
