pub mod FormKinds
pub mod FormShapes
