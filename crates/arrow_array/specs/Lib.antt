pub use Rattle.arrow_layout.specs as Layout
pub use Rattle.arrow_data.specs as Data
pub use Rattle.arrow_builder.specs as Builder
