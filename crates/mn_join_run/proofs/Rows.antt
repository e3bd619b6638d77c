-- Lines from their pieces.
use Rattle.std.proofs.Common.{◌≡◌, ℕ, List, [], ◌∷◌, slice_index_or, refl}
use Rattle.std.specs.Prelude.{codes}
use Rattle.std.specs.Fmt.{decimal}
use Rattle.mn_base.specs.declared.numbers.SiteNo.{SiteNo}
use Rattle.mn_base.specs.declared.numbers.NodeNo.{NodeNo}
use Rattle.mn_base.specs.declared.numbers.LinkNo.{LinkNo}
use Rattle.mn_drops.specs.declared.drops.Rule.{Rule}
use Rattle.mn_wiring.specs.declared.links.Dir.{Dir}
use Rattle.mn_ledger.specs.declared.verdict.Verdict.TheVariants.{Delivered, Dropped, Flying}
use Rattle.mn_course_laws.specs.Expansion.{SentLine}
use Rattle.mn_lines.specs.Names.{NameLists, name_at, ends_at, sender_of, hearer_of}
use Rattle.mn_lines.specs.Lines.{text, rule_name}
use Rattle.mn_join_laws.specs.declared.leg.Leg.{Leg}
use Rattle.mn_join_laws.specs.Pairing.{Pairing, network, Both, side}
use Rattle.mn_join_run.specs.declared.ends.Totals.{Totals}
use Rattle.mn_join_run.specs.Report.{number_text, sites_of, leg_text, verdict_text, sent_text, total_line}

pub leg_row : (pairing : Pairing) (both : Both) (leg : Leg) (number name : List ℕ) → number ≡ number_text leg.which →
    name ≡ name_at (network pairing leg.which).site_names (slice_index_or (sites_of (side both leg.which).past.entries) leg.packet (record { 0 = 0 })).0 →
    text (codes " net " ∷ number ∷ codes " site " ∷ name ∷ []) ≡ leg_text pairing both leg
unfolding leg_text
leg_row pairing both leg number name n s = rw (n, s) refl

pub sent_row : (number : ℕ) (sending : SentLine) (a b d : List ℕ) → a ≡ decimal number → b ≡ decimal sending.line → d ≡ decimal sending.number →
    text (codes "packet " ∷ a ∷ codes " line " ∷ b ∷ codes " record " ∷ d ∷ []) ≡ sent_text number sending
unfolding sent_text
sent_row number sending a b d is_a is_b is_d = rw (is_a, is_b, is_d) refl

pub delivered_row : (names : NameLists) (site : SiteNo) (ttl copy : ℕ) (a b : List ℕ) → a ≡ name_at names.sites site.0 → b ≡ decimal ttl →
    text (codes "delivered " ∷ a ∷ codes " ttl " ∷ b ∷ codes "\n" ∷ []) ≡ verdict_text names (Delivered ttl site copy)
unfolding verdict_text
delivered_row names site ttl copy a b is_a is_b = rw (is_a, is_b) refl

pub dropped_row : (names : NameLists) (rule : Rule) (node : NodeNo) (a b : List ℕ) → a ≡ rule_name rule → b ≡ name_at names.nodes node.0 →
    text (codes "dropped " ∷ a ∷ codes " at " ∷ b ∷ codes "\n" ∷ []) ≡ verdict_text names (Dropped rule node)
unfolding verdict_text
dropped_row names rule node a b is_a is_b = rw (is_a, is_b) refl

pub flying_row : (names : NameLists) (link : LinkNo) (dir : Dir) (a b : List ℕ) → a ≡ name_at names.nodes (sender_of (ends_at names.links link.0) dir) →
    b ≡ name_at names.nodes (hearer_of (ends_at names.links link.0) dir) →
    text (codes "flying " ∷ a ∷ codes " " ∷ b ∷ codes "\n" ∷ []) ≡ verdict_text names (Flying link dir)
unfolding verdict_text
flying_row names link dir a b is_a is_b = rw (is_a, is_b) refl

pub total_row : (totals : Totals) (a b d e f : List ℕ) → a ≡ decimal totals.packets → b ≡ decimal totals.delivered → d ≡ decimal totals.dropped →
    e ≡ decimal totals.flying → f ≡ decimal totals.refused →
    text (codes "total packets " ∷ a ∷ codes " delivered " ∷ b ∷ codes " dropped " ∷ d ∷ codes " flying " ∷ e ∷ codes " refused " ∷ f ∷ codes "\n" ∷ [])
    ≡ total_line totals
unfolding total_line
total_row totals a b d e f is_a is_b is_d is_e is_f = rw (is_a, is_b, is_d, is_e, is_f) refl
