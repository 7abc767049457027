pub use Rattle.arrow_meta_tree.specs as Tree
pub use Rattle.arrow_meta_schema.specs as Schema
pub use Rattle.arrow_meta_reader.specs as Reader
pub use Rattle.arrow_meta_writer.specs as Writer
