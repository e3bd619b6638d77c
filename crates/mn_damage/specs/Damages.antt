-- A damage in words that need no ledger.
pub use Rattle.mn_entry.specs.Damages.{lesser, greater, hearing, ending, number_of, damage_fits, mark_of, entry_for, damage_by, damage_in, IsOneDamage}
