pub mod PlaceTables
pub mod Spots
