pub mod TypedViews
