pub use Rattle.arrow_body_reader.specs as Reader
pub use Rattle.arrow_body_laws.specs as Laws
pub use Rattle.arrow_body_writer.specs as Writer
