pub mod Relayout
pub mod HowCarried
pub mod Carried
