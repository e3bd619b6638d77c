-- A session begins, or ends: what each node receives from whom.
use Rattle.std.proofs.Common.{ℕ, ◌≡◌, ◌≢◌, ◌<◌, ◌⊎◌, inl, inr, Bool, true, false, List, [], ◌∷◌, ◌++◌, filter, length, None, Option}
use Rattle.std.proofs.Common.{refl, arith, sym, ◌∙◌, ap}
use Rattle.std.specs.Prelude.{◌&&◌, not, nat_lt, nat_le, if◌then◌else◌}
use Rattle.std.specs.List.{flat_map}
use Rattle.std.proofs.lemmas.List.{map-append}
use Rattle.mn_base.specs.declared.numbers.NodeNo.{NodeNo}
use Rattle.mn_base.proofs.Bools.{no, and_false}
use Rattle.mn_wiring.specs.Wiring.{nodes_of}
use Rattle.mn_topo.specs.Network.{Network, wiring_of}
use Rattle.mn_topo.specs.declared.steps.Step.TheVariants as step
use Rattle.mn_ledger.specs.Tables.{put_pair}
use Rattle.mn_ledger.specs.Bgp.{peers_live}
use Rattle.mn_ledger.proofs.GoingBy.{pair_here, pair_off}
use Rattle.mn_bgp_spelling_laws.specs.Spelling.{Labels}
use Rattle.mn_mail.specs.Mail.{Letter}
use Rattle.mn_mail.specs.Mail as mail
use Rattle.mn_reflect_ledger_laws.specs.Words.{Key, Offer, last_mention}
use Rattle.mn_reflect_ledger_laws.specs.Picks.{ReflectWorld, announced_by, is_established}
use Rattle.mn_reflect_ledger_laws.specs.World.{unsaid, replies, news, said_in, after}
use Rattle.mn_reflect_ledger_laws.proofs.Steps.{which_pair, IsOther}
use Rattle.mn_reflect_ledger_laws.proofs.Saying.{flat_none}
use Rattle.mn_reflect_world_laws.specs.Spelling.{letter_in, letters_in}
use Rattle.mn_reflect_world_laws.specs.Letters.{open_letter}
use Rattle.mn_reflect_world_laws.proofs.Letters.{are_words}
use Rattle.mn_reflect_world_laws.proofs.Parts.{live_up, live_back}
use Rattle.mn_reflect_world_laws.proofs.Same.{offers_same, quiet_news}

-- 1. Who receives what

module _ (w u : ReflectWorld) (a b : ℕ) (on : Bool) (two : a ≢ b) (sessions : u.config.bgp_on ≡ put_pair w.config.bgp_on a b on)
    (heard : (n p : ℕ) → u.heard n p ≡ put_pair (put_pair w.heard a b []) b a [] n p) where
  pub nothing_heard : (n p : ℕ) → ((n ≡ a) × (p ≡ b)) ⊎ ((n ≡ b) × (p ≡ a)) → u.heard n p ≡ []
  nothing_heard n p (inl e) =
      heard n p ∙ pair_off (put_pair w.heard a b []) b a [] n p (inl (λ q. two (sym e.0 ∙ q)))
      ∙ ap (λ x. put_pair w.heard a b [] x p) e.0 ∙ ap (put_pair w.heard a b [] a) e.1 ∙ pair_here w.heard a b []
  nothing_heard n p (inr e) =
      heard n p ∙ ap (λ x. put_pair (put_pair w.heard a b []) b a [] x p) e.0 ∙ ap (put_pair (put_pair w.heard a b []) b a [] b) e.1
      ∙ pair_here (put_pair w.heard a b []) b a []

  pub none_announced : (n p : ℕ) (k : Key) → ((n ≡ a) × (p ≡ b)) ⊎ ((n ≡ b) × (p ≡ a)) → announced_by u n p k ≡ None
  none_announced n p k who =
      ap (λ ws. if peers_live u.config n p then last_mention k None ws else None) (nothing_heard n p who) ∙ by (peers_live u.config n p)
    where
      by : (t : Bool) → (let o : Option Offer = if t then None else None in o) ≡ None
      by true = refl
      by false = refl

  pub other_live : (n p : ℕ) → IsOther a b n p → peers_live u.config n p ≡ peers_live w.config n p
  other_live n p other =
      ap (λ (f : ℕ → ℕ → Bool). if nat_lt n p then f n p else f p n) sessions
      ∙ ap (λ x. if nat_lt n p then x else put_pair w.config.bgp_on a b on p n) (pair_off w.config.bgp_on a b on n p other.0)
      ∙ ap (λ x. if nat_lt n p then w.config.bgp_on n p else x)
      (pair_off w.config.bgp_on a b on p n (elim other.1 [ inl e ↦ inr e | inr e ↦ inl e ]))

  pub other_heard : (n p : ℕ) → IsOther a b n p → u.heard n p ≡ w.heard n p
  other_heard n p other = heard n p ∙ pair_off (put_pair w.heard a b []) b a [] n p other.1 ∙ pair_off w.heard a b [] n p other.0

  pub other_announced : (n p : ℕ) (k : Key) → IsOther a b n p → announced_by w n p k ≡ announced_by u n p k
  other_announced n p k other =
      ap (λ t. if t then last_mention k None (w.heard n p) else None) (sym (other_live n p other))
      ∙ ap (λ ws. if peers_live u.config n p then last_mention k None ws else None) (sym (other_heard n p other))

  -- an end that is Established was so
  pub was_settled : (n p : ℕ) → is_established u n p ≡ true → is_established w n p ≡ true
  was_settled n p h = elim (which_pair a b n p) [
    | inl who ↦ absurd (no (sym (ap (λ ws. peers_live u.config n p && nat_le 2 (length ws)) (nothing_heard n p who) ∙ and_false (peers_live u.config n p)) ∙ h))
    | inr other ↦ ap (λ t. t && nat_le 2 (length (w.heard n p))) (sym (other_live n p other))
        ∙ ap (λ ws. peers_live u.config n p && nat_le 2 (length ws)) (sym (other_heard n p other)) ∙ h
  ]

-- 2. A session begins

module _ (t : Network) (reflectors : List ℕ) (l : Labels) (w : ReflectWorld) (a b : NodeNo) (less : a.0 < b.0) (off : w.config.bgp_on a.0 b.0 ≡ false) where
  abbrev then_up : ReflectWorld
  then_up = unsaid w (step.BgpUp a b)

  two : a.0 ≢ b.0
  two e = omega (arith, less, e)

  was_dead : (n p : ℕ) → ((n ≡ a.0) × (p ≡ b.0)) ⊎ ((n ≡ b.0) × (p ≡ a.0)) → peers_live w.config n p ≡ false
  was_dead n p (inl e) = ap (λ x. peers_live w.config x p) e.0 ∙ ap (peers_live w.config a.0) e.1 ∙ live_up w.config a.0 b.0 less ∙ off
  was_dead n p (inr e) = ap (λ x. peers_live w.config x p) e.0 ∙ ap (peers_live w.config b.0) e.1 ∙ live_back w.config a.0 b.0 less ∙ off

  pub announced_up : (n p : ℕ) (k : Key) → announced_by w n p k ≡ announced_by then_up n p k
  announced_up n p k = elim (which_pair a.0 b.0 n p) [
    | inl who ↦ ap (λ x. if x then last_mention k None (w.heard n p) else None) (was_dead n p who)
        ∙ sym (none_announced w then_up a.0 b.0 true two refl (λ x y. refl) n p k who)
    | inr other ↦ other_announced w then_up a.0 b.0 true two refl (λ x y. refl) n p k other
  ]

  pub letters_up : letters_in t reflectors l (after t reflectors w (step.BgpUp a b)).flying
      ≡ filter (λ (letter : Letter). not (mail.is_between a.0 b.0 letter)) (letters_in t reflectors l w.flying)
      ++ open_letter t a.0 b.0 ∷ open_letter t b.0 a.0 ∷ []
  letters_up =
      map-append (letter_in t reflectors l) then_up.flying (said_in t reflectors w then_up (step.BgpUp a b))
      ∙ ap (λ ls. ls ++ letters_in t reflectors l (said_in t reflectors w then_up (step.BgpUp a b)))
      (sym (are_words t reflectors l a.0 b.0 w.flying).left)
      ∙ ap (λ ns. filter (λ (letter : Letter). not (mail.is_between a.0 b.0 letter)) (letters_in t reflectors l w.flying)
      ++ letters_in t reflectors l (replies t reflectors w then_up (step.BgpUp a b) ++ ns)) quiet
    where
      quiet : flat_map (news t reflectors w then_up) (nodes_of (wiring_of t)) ≡ []
      quiet = flat_none (news t reflectors w then_up) (nodes_of (wiring_of t))
          (λ n. quiet_news t reflectors w then_up n (λ p k. offers_same t reflectors w then_up n k (λ q. announced_up n q k) refl p))
