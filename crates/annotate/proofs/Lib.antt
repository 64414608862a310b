mod PieceTexts
mod Progress
pub mod Cutting
mod Splitting
pub mod DecimalTexts
pub mod AnnotatedText
mod Examples
mod Seeking
mod Digits
pub mod RunCosts
