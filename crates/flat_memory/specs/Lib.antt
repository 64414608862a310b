pub mod HeldTypes
