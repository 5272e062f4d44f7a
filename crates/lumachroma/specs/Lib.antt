pub mod LumaChroma
pub mod Near
pub mod HowDivided
