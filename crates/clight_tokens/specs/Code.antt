pub mod Views
pub mod TokenViews
pub mod SymbolViews
