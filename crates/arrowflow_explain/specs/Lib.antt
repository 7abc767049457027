-- The statements about a rejected stream.
pub use Rattle.arrowflow_diagnosis.specs.Prefix
pub use Rattle.arrowflow_diagnosis.specs.Cut
pub use Rattle.arrowflow_diagnosis.specs.Places
pub use Rattle.arrowflow_diagnosis.specs.Message
pub use Rattle.arrowflow_diagnosis.specs.Rows
pub use Rattle.arrowflow_diagnosis.specs.Fields
pub use Rattle.arrowflow_diagnosis.specs.Rejection
pub use Rattle.arrowflow_diagnosis.specs.Holds
pub use Rattle.arrowflow_contents.specs.Counting
pub use Rattle.arrowflow_contents.specs.Bodies
pub use Rattle.arrowflow_contents.specs.Sizes
pub mod Explains
