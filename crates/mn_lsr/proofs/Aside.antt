-- What is received aside leaves offers and ways as they were.
use Rattle.std.proofs.Common.{ℕ, ◌≡◌, sym, ◌∙◌, ap, Option, Some, None}
use Rattle.mn_base.specs.declared.numbers.NodeNo.{NodeNo}
use Rattle.mn_labels.specs.declared.meaning.Bind.{Bind}
use Rattle.mn_labels.specs.declared.meaning.Bind.TheVariants as bind
use Rattle.mn_labels.specs.Labels.{LabelTable}
use Rattle.mn_lfib.specs.declared.answer.Use.{Use}
use Rattle.mn_lfib.specs.Uses.{fec_use}
use Rattle.mn_bindings.specs.Bindings.{Bindings}
use Rattle.mn_bindings.specs.Bindings as lib
use Rattle.mn_lsr.specs.Standing.{IsUseOf}
use Rattle.mn_lsr.specs.Parts.{HaveLabels}

pub have_still : (me nodes : ℕ) (b b' : Bindings) (table : LabelTable) → ((fec : ℕ) → lib.offers b' fec ≡ lib.offers b fec) →
    HaveLabels me nodes b table → HaveLabels me nodes b' table
have_still me nodes b b' table same have = record {
  me_is = have.me_is;
  long = have.long;
  told = have.told;
  had = λ fec there other on. have.had fec there other (sym (same fec) ∙ on);
}

pub use_still : (way way' : ℕ → Option (NodeNo × ℕ)) (what : Option Bind) (used : Option Use) → ((fec : ℕ) → way' fec ≡ way fec) →
    IsUseOf way what used → IsUseOf way' what used
use_still way way' None used same is = is
use_still way way' (Some (bind.Fec fec)) used same is = is ∙ ap fec_use (sym (same fec.0))
use_still way way' (Some (bind.Site site attachment)) used same is = is
