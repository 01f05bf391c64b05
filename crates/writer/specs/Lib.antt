-- The calls for a written sheet: the definitions stand first, what is shown of them behind them.
pub mod Rows
pub mod Call
pub mod Body
