-- The words of other crates that most clauses here cite, passed on from one place. Declares nothing.
pub use Rattle.mn_base.specs.Ordered.{with_one, without_one, one_at}
pub use Rattle.mn_prefix.specs.Prefix.{AddressBlock, IsPrefix}
pub use Rattle.mn_prefix.specs.Table.{longest_match, value_at, ChangesOnly, first_of}
pub use Rattle.mn_lpm.specs.Levels.{prefix_at}
pub use Rattle.mn_targets.specs.Targets.{target_set, has_target}
