-- A number stored with one place more than it takes, which is stored over by what comes next
pub mod Store
-- Tables whose numbers are units, so that none takes more than three bytes
pub mod Units
