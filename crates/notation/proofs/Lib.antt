pub mod CutPlaces
pub mod DigitLaws
pub mod HexLaws
