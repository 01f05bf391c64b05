pub mod CutTurns
pub mod FieldTurns
pub mod SignTurns
pub mod Laws
