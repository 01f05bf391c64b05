-- The sheet written for a plan: the definitions stand first, what is shown of them behind them.
pub mod Valid
pub mod Enough
pub mod Makes
pub mod Written
