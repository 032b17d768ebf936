pub mod Resting
pub mod Given
pub mod UnderWay
pub mod Serves
pub mod LookUps
pub mod Pipelines
