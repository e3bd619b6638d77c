-- The words of other crates that most clauses here cite, passed on from one place. Declares nothing.
pub use Rattle.mn_edge.specs.Memory.{all_differ}
pub use Rattle.mn_edge.specs.Written.{texts}
pub use Rattle.mn_ledger.specs.Prelude.{IsLawful, Network, is_edge}
pub use Rattle.mn_output_laws.specs.Files.{OutputFile, file_name, files_of, Journal, Labels, Deliveries, Frames, Said, Told, link_name, node_name, pair_name}
pub use Rattle.mn_output_laws.specs.Files.{told_files}
