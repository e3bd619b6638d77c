-- The command that asks for an entry: its step, or the damage that made it.
use Rattle.std.proofs.Common.{◌≡◌, ◌<◌, ◌^◌, ℕ, Bool, true, false, Some, Ok, refl, ap, sym, ◌∙◌, subst}
use Rattle.std.specs.Prelude.{nat_lt, if◌then◌else◌}
use Rattle.mn_base.specs.declared.numbers.NodeNo.{NodeNo}
use Rattle.mn_wiring.specs.declared.links.Dir.TheVariants as dir
use Rattle.mn_topo.specs.Lawful.{IsLawful}
use Rattle.mn_topo.specs.Network.{Network}
use Rattle.mn_topo.specs.declared.steps.Step.TheVariants.{BgpDown}
use Rattle.mn_topo.specs.declared.steps.Damage.{Damage}
use Rattle.mn_topo.specs.declared.steps.Damage.TheVariants.{Ldp, Bgp}
use Rattle.mn_topo.specs.declared.steps.Damaged.TheVariants as mark
use Rattle.mn_topo.specs.declared.steps.JournalEntry.{JournalEntry}
use Rattle.mn_entry.specs.Damages.{mark_of, entry_for}
use Rattle.mn_entry.specs.Entries.{IsMadeBy, Plain, ByDamage}
use Rattle.mn_entry.proofs.Told.{one_or_the_other}
use Rattle.mn_script.specs.declared.command.Command.{Command}
use Rattle.mn_script.specs.declared.command.Command.TheVariants as command
use Rattle.mn_script.specs.Lines.{line_says}
use Rattle.mn_script.specs.Spelled.{damage_words, command_words, IsDamage}
use Rattle.mn_script.proofs.Again.{command_again}
use Rattle.mn_journal.specs.Lines.{done_words, entry_words, IsMark, IsEntry}
use Rattle.mn_journal.specs.Reading.{entry_at}
use Rattle.mn_journal.proofs.Plain.{AllPlain, step_plain, damage_plain}

-- the entry's words are a command's, which asks for the entry
pub record IsAsked (network : Network) (entry : JournalEntry) : Type 0 where
  pub command : Command
  pub words : entry_words network entry ≡ command_words network command
  pub plain : AllPlain (command_words network command)
  pub said : line_says network (command_words network command) ≡ Ok (Some command)
  pub back : entry_at entry.tick (Ok (Some command)) ≡ Some entry

pair_words : (network : Network) (a b : NodeNo) (n : ℕ) (x : Bool) →
    done_words network (BgpDown (if x then a else b) (if x then b else a)) (if x then mark.Forth n else mark.Back n) ≡ damage_words network (Bgp a b n)
pair_words network a b n true = refl
pair_words network a b n false = refl

words_of_damage : (network : Network) (tick : ℕ) (d : Damage) → entry_words network (entry_for tick d) ≡ damage_words network d
words_of_damage network tick (Ldp l dir.Forth n) = refl
words_of_damage network tick (Ldp l dir.Back n) = refl
words_of_damage network tick (Bgp a b n) = pair_words network a b n (nat_lt a.0 b.0)

pair_small : (n : ℕ) (x : Bool) → IsMark (if x then mark.Forth n else mark.Back n) → n < 2 ^ 32
pair_small n true h = h
pair_small n false h = h

small : (d : Damage) → IsMark (mark_of d) → IsDamage d
small (Ldp l dir.Forth n) h = h
small (Ldp l dir.Back n) h = h
small (Bgp a b n) h = pair_small n (nat_lt a.0 b.0) h

pub asked_for : (network : Network) (entry : JournalEntry) → IsLawful network → IsEntry network entry → IsAsked network entry
asked_for network entry lawful is = by (one_or_the_other network entry is.fit)
  where
    by : IsMadeBy network entry → IsAsked network entry
    by (Plain u f) = record {
      command = command.Do entry.step;
      words = ap (done_words network entry.step) u;
      plain = step_plain network entry.step lawful f is.step;
      said = command_again network (command.Do entry.step) lawful f is.step;
      back = ap (λ m. let found : JournalEntry = record { tick = entry.tick; step = entry.step; damaged = m } in Some found) (sym u);
    }
    by (ByDamage d e f) =
        let number : IsDamage d = small d (subst (λ (x : JournalEntry). IsMark x.damaged) e is.mark) in
        record {
          command = command.Damage d;
          words = ap (entry_words network) e ∙ words_of_damage network entry.tick d;
          plain = damage_plain network d lawful f number;
          said = command_again network (command.Damage d) lawful f number;
          back = ap Some (sym e);
        }
