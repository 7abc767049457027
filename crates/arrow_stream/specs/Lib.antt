pub use Rattle.arrow_sink.specs as Sink
pub use Rattle.arrow_stream_reader.specs as Reader
pub use Rattle.arrow_stream_laws.specs as Laws
pub use Rattle.arrow_stream_writer.specs as Writer
