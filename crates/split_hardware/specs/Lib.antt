pub mod Shadow
