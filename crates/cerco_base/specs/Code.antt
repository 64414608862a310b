pub mod CallOrderView
