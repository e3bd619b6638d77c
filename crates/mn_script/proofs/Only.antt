-- Only the words of a command are read as the command.
use Rattle.std.proofs.Common.{◌≡◌, ◌<◌, ◌≤◌, ◌-◌, ◌%◌, ◌^◌, ◌⊎◌, inl, inr, ℕ, Bool, true, false, List, [], ◌∷◌, length, refl, ap, sym, ◌∙◌, subst, lit<, arith}
use Rattle.std.specs.Prelude.{min, max, nat_le, ◌==◌, Option, Some, None, option_map, option_and_then, position, Result, Ok, Err, codes, slice_index_or}
use Rattle.std.specs.Prelude.{if◌then◌else◌}
use Rattle.std.specs.Option.{option_map_or}
use Rattle.std.specs.Result.{result_ok}
use Rattle.std.specs.Str.{bytes_eq}
use Rattle.std.specs.Str.Parse.{digits_value}
use Rattle.std.proofs.lemmas.Bool.{eqb-true, cases_lt}
use Rattle.std.proofs.lemmas.Bool.Decides.{nat_tests}
use Rattle.std.proofs.lemmas.Slice.Eq.{bytes_eq-Decides}
use Rattle.std.proofs.lemmas.Option.{same_Some}
use Rattle.std.proofs.lemmas.List.Quantifiers.{position-Some}
use Rattle.mn_wiring.specs.declared.links.Dir.{Dir}
use Rattle.mn_wiring.specs.declared.links.Dir.TheVariants.{Forth, Back}
use Rattle.mn_base.specs.declared.numbers.NodeNo.{NodeNo}
use Rattle.mn_base.specs.declared.numbers.LinkNo.{LinkNo}
use Rattle.mn_base.specs.declared.numbers.VrfNo.{VrfNo}
use Rattle.mn_base.specs.declared.numbers.SiteNo.{SiteNo}
use Rattle.mn_base.specs.declared.numbers.Rt.{Rt}
use Rattle.mn_prefix.specs.Prefix.{AddressBlock}
use Rattle.mn_text.specs.declared.refusal.TextBad.{TextBad}
use Rattle.mn_text.specs.declared.refusal.TextBad.TheVariants.{BadPrefix, HostBits}
use Rattle.mn_text.specs.Numbers.{number_text, is_number}
use Rattle.mn_text.specs.Addresses.{prefix_text, slashed_of, without_host_bits}
use Rattle.mn_text.specs.Pairs.{rt_text}
use Rattle.mn_text.proofs.Only.{number_only, slashed_only, pair_text_only, up_to_parts}
use Rattle.mn_topo.specs.Names.{number_of}
use Rattle.mn_topo.specs.Links.{joins}
use Rattle.mn_topo.specs.Network.{Network, link_numbered, direction_from, Leads}
use Rattle.mn_topo.specs.Steps.{are_edges}
use Rattle.mn_topo.proofs.Ends.{leads}
use Rattle.mn_topo.specs.declared.steps.Step.{Step}
use Rattle.mn_topo.specs.declared.steps.Step.TheVariants.{LinkUp, LinkDown, Learn, LdpAdmin, HearLdp, BgpUp, BgpDown, HearBgp, AddRoute, DelRoute, Import}
use Rattle.mn_topo.specs.declared.steps.Step.TheVariants.{Export, Attach, Detach, Inject, Tick}
use Rattle.mn_script.specs.declared.refusal.ScriptRule.{ScriptRule}
use Rattle.mn_script.specs.declared.refusal.ScriptRule.TheVariants.{UnknownWord, WrongCount, BadNumber, NoSuchName, NotLinked, NotEdge}
use Rattle.mn_script.specs.Rules.{◌>>=◌, or_rule}
use Rattle.mn_script.specs.Words.{word_at, is_word, choice, counted}
use Rattle.mn_script.specs.Operands.{lesser, greater, number_in, prefix_in, target_in, node_in, vrf_in, site_in, link_in, edges_in}
use Rattle.mn_script.specs.Steps.{step_line, link_line, learn_line, ldp_line, hear_line, hear_ldp_line, hear_bgp_line, bgp_line, route_line}
use Rattle.mn_script.specs.Steps.{target_operands, import_line, export_line, site_line, inject_line, frame_operands, carry_line, lose_line, tick_line}
use Rattle.mn_script.specs.Spelled.{node_text, vrf_text, site_text, from_text, to_text, AskForStep}
use Rattle.mn_script.specs.declared.command.Command.{Command}
use Rattle.mn_script.specs.declared.command.Command.TheVariants as command
use Rattle.mn_script.specs.declared.command.Show.{Show}
use Rattle.mn_script.specs.declared.command.Show.TheVariants as table
use Rattle.mn_topo.specs.declared.steps.Damage.{Damage}
use Rattle.mn_topo.specs.declared.steps.Damage.TheVariants.{Ldp, Bgp}
use Rattle.mn_script.specs.Damages.{damage_ldp_line, damage_bgp_line, damage_line}
use Rattle.mn_script.specs.Lines.{run_line, bounded_drain, drain_line, flush_line, plain_show, show_tree, show_vrf, show_frame, show_line, do_line}
use Rattle.mn_script.specs.Lines.{damaged_line, table_line}
use Rattle.mn_script.specs.Lines.{command_line, line_says}
use Rattle.mn_script.specs.Spelled.{damage_words, show_words, AskFor}

-- 1. Chains of rules
bind_ok : {A B : Type 0} (r : Result A ScriptRule) (f : A → Result B ScriptRule) (y : B) → (r >>= f) ≡ Ok y → (x : A) × (r ≡ Ok x) × (f x ≡ Ok y)
bind_ok (Ok x) f y h = (x, refl, h)
bind_ok (Err rule) f y h = cc

or_ok : {A : Type 0} (rule : ScriptRule) (o : Option A) (x : A) → or_rule rule o ≡ Ok x → o ≡ Some x
or_ok rule None x h = cc
or_ok rule (Some y) x h = let same : y ≡ x = cc in ap Some same

same_Ok : {A : Type 0} (x y : A) → ◌≡◌ {A = Result A ScriptRule} (Ok x) (Ok y) → x ≡ y
same_Ok x y h = cc

if_ok : {A : Type 0} (b : Bool) (x y : A) (rule : ScriptRule) → ◌≡◌ {A = Result A ScriptRule} (if b then Ok x else Err rule) (Ok y) → (b ≡ true) × (x ≡ y)
if_ok true x y rule h = (refl, cc)
if_ok false x y rule h = cc

-- either the test passes, or what stands after it gives the answer
either : {A : Type 0} (b : Bool) (x y : Result A ScriptRule) (v : A) → (if b then x else y) ≡ Ok v → ((b ≡ true) × (x ≡ Ok v)) ⊎ (y ≡ Ok v)
either true x y v h = inl (refl, h)
either false x y v h = inr h

-- 2. Words
same_text : (v w : List ℕ) → bytes_eq v w ≡ true → v ≡ w
same_text v w h = (bytes_eq-Decides v w).0 h

word_is : (ws : List (List ℕ)) (k : ℕ) (text : List ℕ) → is_word ws k text ≡ true → word_at ws k ≡ text
word_is ws k text h = same_text (word_at ws k) text h

counted_only : (ws : List (List ℕ)) (n : ℕ) (u : Unit {0}) → counted ws n ≡ Ok u → length ws ≡ n
counted_only ws n u h = eqb-true (length ws) n (if_ok (length ws == n) tt u WrongCount h).0

choice_only : (ws : List (List ℕ)) (one other : List ℕ) (b : Bool) → choice ws one other ≡ Ok b → word_at ws 1 ≡ (if b then one else other)
choice_only ws one other b h = chosen (length ws == 1) (is_word ws 1 one) (is_word ws 1 other) b (word_is ws 1 one) (word_is ws 1 other) h where
  chosen : (alone first second : Bool) (b : Bool) → (first ≡ true → word_at ws 1 ≡ one) → (second ≡ true → word_at ws 1 ≡ other) →
      (if alone then Err WrongCount else if first then Ok true else if second then Ok false else Err UnknownWord) ≡ Ok b →
      word_at ws 1 ≡ (if b then one else other)
  chosen true first second b is_one is_other h = cc
  chosen false true second true is_one is_other h = is_one refl
  chosen false true second false is_one is_other h = cc
  chosen false false true true is_one is_other h = cc
  chosen false false true false is_one is_other h = is_other refl
  chosen false false false b is_one is_other h = cc

two_words : (ws : List (List ℕ)) → length ws ≡ 2 → ws ≡ word_at ws 0 ∷ word_at ws 1 ∷ []
two_words [] h = absurd (omega arith)
two_words (a ∷ []) h = absurd (omega arith)
two_words (a ∷ b ∷ []) h = refl
two_words (a ∷ b ∷ c ∷ ws) h = absurd (omega arith)

three_words : (ws : List (List ℕ)) → length ws ≡ 3 → ws ≡ word_at ws 0 ∷ word_at ws 1 ∷ word_at ws 2 ∷ []
three_words [] h = absurd (omega arith)
three_words (a ∷ []) h = absurd (omega arith)
three_words (a ∷ b ∷ []) h = absurd (omega arith)
three_words (a ∷ b ∷ c ∷ []) h = refl
three_words (a ∷ b ∷ c ∷ d ∷ ws) h = absurd (omega arith)

four_words : (ws : List (List ℕ)) → length ws ≡ 4 → ws ≡ word_at ws 0 ∷ word_at ws 1 ∷ word_at ws 2 ∷ word_at ws 3 ∷ []
four_words [] h = absurd (omega arith)
four_words (a ∷ []) h = absurd (omega arith)
four_words (a ∷ b ∷ []) h = absurd (omega arith)
four_words (a ∷ b ∷ c ∷ []) h = absurd (omega arith)
four_words (a ∷ b ∷ c ∷ d ∷ []) h = refl
four_words (a ∷ b ∷ c ∷ d ∷ e ∷ ws) h = absurd (omega arith)

five_words : (ws : List (List ℕ)) → length ws ≡ 5 → ws ≡ word_at ws 0 ∷ word_at ws 1 ∷ word_at ws 2 ∷ word_at ws 3 ∷ word_at ws 4 ∷ []
five_words [] h = absurd (omega arith)
five_words (a ∷ []) h = absurd (omega arith)
five_words (a ∷ b ∷ []) h = absurd (omega arith)
five_words (a ∷ b ∷ c ∷ []) h = absurd (omega arith)
five_words (a ∷ b ∷ c ∷ d ∷ []) h = absurd (omega arith)
five_words (a ∷ b ∷ c ∷ d ∷ e ∷ []) h = refl
five_words (a ∷ b ∷ c ∷ d ∷ e ∷ f ∷ ws) h = absurd (omega arith)

of_two : (ws : List (List ℕ)) (a b : List ℕ) → length ws ≡ 2 → word_at ws 0 ≡ a → word_at ws 1 ≡ b → ws ≡ a ∷ b ∷ []
of_two ws a b n p q = let all = two_words ws n in cc

of_three : (ws : List (List ℕ)) (a b c : List ℕ) → length ws ≡ 3 → word_at ws 0 ≡ a → word_at ws 1 ≡ b → word_at ws 2 ≡ c → ws ≡ a ∷ b ∷ c ∷ []
of_three ws a b c n p q r = let all = three_words ws n in cc

of_four : (ws : List (List ℕ)) (a b c d : List ℕ) → length ws ≡ 4 → word_at ws 0 ≡ a → word_at ws 1 ≡ b → word_at ws 2 ≡ c → word_at ws 3 ≡ d →
    ws ≡ a ∷ b ∷ c ∷ d ∷ []
of_four ws a b c d n p q r s = let all = four_words ws n in cc

of_five : (ws : List (List ℕ)) (a b c d e : List ℕ) → length ws ≡ 5 → word_at ws 0 ≡ a → word_at ws 1 ≡ b → word_at ws 2 ≡ c → word_at ws 3 ≡ d →
    word_at ws 4 ≡ e → ws ≡ a ∷ b ∷ c ∷ d ∷ e ∷ []
of_five ws a b c d e n p q r s t = let all = five_words ws n in cc

-- 3. What words name
text_of : (names : List (List ℕ)) (w : List ℕ) (n : ℕ) → number_of names w ≡ Some n → w ≡ slice_index_or names n []
text_of names w n h = same_text w (slice_index_or names n []) (position-Some (bytes_eq w) names n [] h).1

node_of : (o : Option ℕ) (node : NodeNo) → option_map (λ n. record { 0 = n }) o ≡ Some node → o ≡ Some node.0
node_of None node h = cc
node_of (Some n) node h = let same : ◌≡◌ {A = NodeNo} (record { 0 = n }) node = same_Some _ _ h in ap (λ v. Some v.0) same

vrf_of : (o : Option ℕ) (vrf : VrfNo) → option_map (λ n. record { 0 = n }) o ≡ Some vrf → o ≡ Some vrf.0
vrf_of None vrf h = cc
vrf_of (Some n) vrf h = let same : ◌≡◌ {A = VrfNo} (record { 0 = n }) vrf = same_Some _ _ h in ap (λ v. Some v.0) same

site_of : (o : Option ℕ) (site : SiteNo) → option_map (λ n. record { 0 = n }) o ≡ Some site → o ≡ Some site.0
site_of None site h = cc
site_of (Some n) site h = let same : ◌≡◌ {A = SiteNo} (record { 0 = n }) site = same_Some _ _ h in ap (λ v. Some v.0) same

node_only : (network : Network) (w : List ℕ) (node : NodeNo) → node_in network w ≡ Ok node → w ≡ node_text network node
node_only network w node h = text_of network.node_names w node.0 (node_of _ node (or_ok NoSuchName _ node h))

vrf_only : (network : Network) (w : List ℕ) (vrf : VrfNo) → vrf_in network w ≡ Ok vrf → w ≡ vrf_text network vrf
vrf_only network w vrf h = text_of network.vrf_names w vrf.0 (vrf_of _ vrf (or_ok NoSuchName _ vrf h))

site_only : (network : Network) (w : List ℕ) (site : SiteNo) → site_in network w ≡ Ok site → w ≡ site_text network site
site_only network w site h = text_of network.site_names w site.0 (site_of _ site (or_ok NoSuchName _ site h))

link_leads : (network : Network) (m n : ℕ) (found : LinkNo × Dir) (o : Option ℕ) → position (joins m n) network.links ≡ o →
    ◌≡◌ {A = Option (LinkNo × Dir)} (option_map (λ l. (record { 0 = l }, direction_from m (link_numbered network l))) o) (Some found) →
    Leads network m n found.0.0 found.1
link_leads network m n found None e h = cc
link_leads network m n found (Some l) e h =
    let same : ◌≡◌ {A = LinkNo × Dir} (record { 0 = l }, direction_from m (link_numbered network l)) found = same_Some _ _ h in
    subst (λ f. Leads network m n f.0.0 f.1) same (leads network m n l e)

ends_only : (network : Network) (a b : List ℕ) (found : LinkNo × Dir) → link_in network a b ≡ Ok found →
    (a ≡ from_text network found.0 found.1) × (b ≡ to_text network found.0 found.1)
unfolding link_in
ends_only network a b found h =
    let m = bind_ok (node_in network a) _ found h in
    let n = bind_ok (node_in network b) _ found m.2 in
    let way = link_leads network m.0.0 n.0.0 found _ refl (or_ok NotLinked _ found n.2) in (
      node_only network a m.0 m.1 ∙ ap (λ k. slice_index_or network.node_names k []) (sym way.from),
      node_only network b n.0 n.1
          ∙ ap (λ k. slice_index_or network.node_names k []) (sym way.to),
    )

edges_only : (network : Network) (a b : List ℕ) (pair : NodeNo × NodeNo) → edges_in network a b ≡ Ok pair →
    (a ≡ node_text network pair.0) × (b ≡ node_text network pair.1)
unfolding edges_in
edges_only network a b pair h =
    let m = bind_ok (node_in network a) _ pair h in
    let n = bind_ok (node_in network b) _ pair m.2 in
    let same : ◌≡◌ {A = NodeNo × NodeNo} (m.0, n.0) pair = (if_ok (are_edges network m.0 n.0) (m.0, n.0) pair NotEdge n.2).1 in
    (node_only network a m.0 m.1 ∙ ap (λ p. node_text network p.0) same, node_only network b n.0 n.1 ∙ ap (λ p. node_text network p.1) same)

from_parts : (least n : ℕ) (o : Option ℕ) → option_and_then (λ m. if nat_le least m then Some m else None) o ≡ Some n → o ≡ Some n
from_parts least n None h = cc
from_parts least n (Some m) h = kept (nat_le least m) m n h where
  kept : (b : Bool) (m n : ℕ) → ◌≡◌ {A = Option ℕ} (if b then Some m else None) (Some n) → ◌≡◌ {A = Option ℕ} (Some m) (Some n)
  kept true m n h = h
  kept false m n h = cc

number_in_only : (w : List ℕ) (least most n : ℕ) → most < 2 ^ 64 → number_in w least most ≡ Ok n → w ≡ number_text n
number_in_only w least most n fits h =
    let p = up_to_parts (is_number w) (nat_le (digits_value 10 w) most) (digits_value 10 w) n (from_parts least n _ (or_ok BadNumber _ n h)) in
    let small : n ≤ most = grind (arith, nat_tests, p.1, p.2) in
    number_only w n p.0 (sym p.2) (omega (arith, small, fits))

clear_only : (p q : AddressBlock) → without_host_bits p ≡ Ok q → p ≡ q
clear_only p q h = kept (p.address % 2 ^ (32 - p.length) == 0) p q h where
  kept : (b : Bool) (p q : AddressBlock) → ◌≡◌ {A = Result AddressBlock TextBad} (if b then Ok p else Err HostBits) (Ok q) → p ≡ q
  kept true p q h = cc
  kept false p q h = cc

slashed : (o : Option AddressBlock) (p : AddressBlock) → result_ok (option_map_or without_host_bits o (Err BadPrefix)) ≡ Some p → o ≡ Some p
slashed None p h = cc
slashed (Some q) p h = ap Some (clear_only q p (read (without_host_bits q) p h)) where
  read : (r : Result AddressBlock TextBad) (p : AddressBlock) → result_ok r ≡ Some p → r ≡ Ok p
  read (Ok x) p h = let same : x ≡ p = cc in ap Ok same
  read (Err bad) p h = cc

prefix_in_only : (w : List ℕ) (p : AddressBlock) → prefix_in w ≡ Ok p → w ≡ prefix_text p
prefix_in_only w p h = slashed_only w p (slashed (slashed_of w) p (or_ok BadNumber _ p h))

target_of : (o : Option ℕ) (target : Rt) → option_map (λ n. record { 0 = n }) o ≡ Some target → o ≡ Some target.0
target_of None target h = cc
target_of (Some n) target h = let same : ◌≡◌ {A = Rt} (record { 0 = n }) target = same_Some _ _ h in ap (λ v. Some v.0) same

target_in_only : (w : List ℕ) (target : Rt) → target_in w ≡ Ok target → w ≡ rt_text target
target_in_only w target h = pair_text_only 0x0002 0x0102 w target.0 (λ e. absurd (omega (arith, e))) (target_of _ target (or_ok BadNumber _ target h))

-- 4. The lines that name a step
link_asked : (network : Network) (ws : List (List ℕ)) (step : Step) (on : Bool) (link : LinkNo) (direction : Dir) →
    (if on then LinkUp link else LinkDown link) ≡ step → ws ≡ codes "link" ∷ (if on then codes "up" else codes "down") ∷ from_text network link direction
    ∷ to_text network link direction ∷ [] → AskForStep network ws step
link_asked network ws step true link Forth same whole = subst (AskForStep network ws) same (inl whole)
link_asked network ws step true link Back same whole = subst (AskForStep network ws) same (inr whole)
link_asked network ws step false link Forth same whole = subst (AskForStep network ws) same (inl whole)
link_asked network ws step false link Back same whole = subst (AskForStep network ws) same (inr whole)

link_only : (network : Network) (ws : List (List ℕ)) (step : Step) → word_at ws 0 ≡ codes "link" → link_line network ws ≡ Ok step → AskForStep network ws step
unfolding link_line
link_only network ws step first h =
    let on = bind_ok (choice ws (codes "up") (codes "down")) _ step h in
    let full = bind_ok (counted ws 4) _ step on.2 in
    let found = bind_ok (link_in network (word_at ws 2) (word_at ws 3)) _ step full.2 in
    let ends = ends_only network (word_at ws 2) (word_at ws 3) found.0 found.1 in
    link_asked network ws step on.0 found.0.0 found.0.1 (same_Ok _ step found.2)
    (of_four ws (codes "link") _ _ _ (counted_only ws 4 full.0 full.1) first (choice_only ws (codes "up") (codes "down") on.0 on.1) ends.0 ends.1)

learn_asked : (network : Network) (ws : List (List ℕ)) (step : Step) (node : NodeNo) (link : LinkNo) (direction : Dir) → Learn node link ≡ step →
    ws ≡ codes "learn" ∷ node_text network node ∷ from_text network link direction ∷ to_text network link direction ∷ [] → AskForStep network ws step
learn_asked network ws step node link Forth same whole = subst (AskForStep network ws) same (inl whole)
learn_asked network ws step node link Back same whole = subst (AskForStep network ws) same (inr whole)

learn_only : (network : Network) (ws : List (List ℕ)) (step : Step) → word_at ws 0 ≡ codes "learn" → learn_line network ws ≡ Ok step →
    AskForStep network ws step
unfolding learn_line
learn_only network ws step first h =
    let full = bind_ok (counted ws 4) _ step h in
    let node = bind_ok (node_in network (word_at ws 1)) _ step full.2 in
    let found = bind_ok (link_in network (word_at ws 2) (word_at ws 3)) _ step node.2 in
    let ends = ends_only network (word_at ws 2) (word_at ws 3) found.0 found.1 in
    learn_asked network ws step node.0 found.0.0 found.0.1 (same_Ok _ step found.2)
    (of_four ws (codes "learn") _ _ _ (counted_only ws 4 full.0 full.1) first (node_only network (word_at ws 1) node.0 node.1) ends.0 ends.1)

ldp_asked : (network : Network) (ws : List (List ℕ)) (step : Step) (on : Bool) (link : LinkNo) (direction : Dir) → LdpAdmin link on ≡ step →
    ws ≡ codes "ldp" ∷ (if on then codes "on" else codes "off") ∷ from_text network link direction ∷ to_text network link direction ∷ [] →
    AskForStep network ws step
ldp_asked network ws step true link Forth same whole = subst (AskForStep network ws) same (inl whole)
ldp_asked network ws step true link Back same whole = subst (AskForStep network ws) same (inr whole)
ldp_asked network ws step false link Forth same whole = subst (AskForStep network ws) same (inl whole)
ldp_asked network ws step false link Back same whole = subst (AskForStep network ws) same (inr whole)

ldp_only : (network : Network) (ws : List (List ℕ)) (step : Step) → word_at ws 0 ≡ codes "ldp" → ldp_line network ws ≡ Ok step → AskForStep network ws step
unfolding ldp_line
ldp_only network ws step first h =
    let on = bind_ok (choice ws (codes "on") (codes "off")) _ step h in
    let full = bind_ok (counted ws 4) _ step on.2 in
    let found = bind_ok (link_in network (word_at ws 2) (word_at ws 3)) _ step full.2 in
    let ends = ends_only network (word_at ws 2) (word_at ws 3) found.0 found.1 in
    ldp_asked network ws step on.0 found.0.0 found.0.1 (same_Ok _ step found.2)
    (of_four ws (codes "ldp") _ _ _ (counted_only ws 4 full.0 full.1) first (choice_only ws (codes "on") (codes "off") on.0 on.1) ends.0 ends.1)

hear_ldp_only : (network : Network) (ws : List (List ℕ)) (step : Step) → length ws ≡ 4 → word_at ws 0 ≡ codes "hear" → word_at ws 1 ≡ codes "ldp" →
    hear_ldp_line network ws ≡ Ok step → AskForStep network ws step
unfolding hear_ldp_line
hear_ldp_only network ws step four first second h =
    let found = bind_ok (link_in network (word_at ws 2) (word_at ws 3)) _ step h in
    let ends = ends_only network (word_at ws 2) (word_at ws 3) found.0 found.1 in
    subst (AskForStep network ws) (same_Ok (HearLdp found.0.0 found.0.1) step found.2)
    (inl (of_four ws (codes "hear") (codes "ldp") _ _ four first second ends.0 ends.1))

hear_bgp_only : (network : Network) (ws : List (List ℕ)) (step : Step) → length ws ≡ 4 → word_at ws 0 ≡ codes "hear" → word_at ws 1 ≡ codes "bgp" →
    hear_bgp_line network ws ≡ Ok step → AskForStep network ws step
unfolding hear_bgp_line
hear_bgp_only network ws step four first second h =
    let found = bind_ok (edges_in network (word_at ws 2) (word_at ws 3)) _ step h in
    let edges = edges_only network (word_at ws 2) (word_at ws 3) found.0 found.1 in
    subst (AskForStep network ws) (same_Ok (HearBgp found.0.0 found.0.1) step found.2)
    (inl (of_four ws (codes "hear") (codes "bgp") _ _ four first second edges.0 edges.1))

hear_either : (network : Network) (ws : List (List ℕ)) (step : Step) (ldp : Bool) → length ws ≡ 4 → word_at ws 0 ≡ codes "hear" →
    word_at ws 1 ≡ (if ldp then codes "ldp" else codes "bgp") → (if ldp then hear_ldp_line network ws else hear_bgp_line network ws) ≡ Ok step →
    AskForStep network ws step
hear_either network ws step true four first second h = hear_ldp_only network ws step four first second h
hear_either network ws step false four first second h = hear_bgp_only network ws step four first second h

hear_only : (network : Network) (ws : List (List ℕ)) (step : Step) → word_at ws 0 ≡ codes "hear" → hear_line network ws ≡ Ok step → AskForStep network ws step
unfolding hear_line
hear_only network ws step first h =
    let ldp = bind_ok (choice ws (codes "ldp") (codes "bgp")) _ step h in
    let full = bind_ok (counted ws 4) _ step ldp.2 in
    hear_either network ws step ldp.0 (counted_only ws 4 full.0 full.1) first (choice_only ws (codes "ldp") (codes "bgp") ldp.0 ldp.1) full.2

-- two nodes in the order of their numbers, which is that of the words or the other
bgp_up_asked : (network : Network) (ws : List (List ℕ)) (one other : NodeNo) →
    ws ≡ codes "bgp" ∷ codes "up" ∷ node_text network one ∷ node_text network other ∷ [] →
    AskForStep network ws (BgpUp (lesser one other) (greater one other))
bgp_up_asked network ws one other whole =
    elim (cases_lt one.0 other.0) as (λ _. AskForStep network ws (BgpUp (lesser one other) (greater one other))) [
      | inl before ↦
          let low : one.0 ≡ min one.0 other.0 = omega arith in
          let high : other.0 ≡ max one.0 other.0 = omega arith in
          inl (whole ∙ ap (λ n. codes "bgp" ∷ codes "up" ∷ slice_index_or network.node_names n [] ∷ node_text network other ∷ []) low
          ∙ ap (λ n. codes "bgp" ∷ codes "up" ∷ node_text network (lesser one other) ∷ slice_index_or network.node_names n [] ∷ []) high)
      | inr after ↦
          let high : one.0 ≡ max one.0 other.0 = omega arith in
          let low : other.0 ≡ min one.0 other.0 = omega arith in
          inr (whole ∙ ap (λ n. codes "bgp" ∷ codes "up" ∷ slice_index_or network.node_names n [] ∷ node_text network other ∷ []) high
          ∙ ap (λ n. codes "bgp" ∷ codes "up" ∷ node_text network (greater one other) ∷ slice_index_or network.node_names n [] ∷ []) low)
    ]

bgp_down_asked : (network : Network) (ws : List (List ℕ)) (one other : NodeNo) →
    ws ≡ codes "bgp" ∷ codes "down" ∷ node_text network one ∷ node_text network other ∷ [] →
    AskForStep network ws (BgpDown (lesser one other) (greater one other))
bgp_down_asked network ws one other whole =
    elim (cases_lt one.0 other.0) as (λ _. AskForStep network ws (BgpDown (lesser one other) (greater one other))) [
      | inl before ↦
          let low : one.0 ≡ min one.0 other.0 = omega arith in
          let high : other.0 ≡ max one.0 other.0 = omega arith in
          inl (whole ∙ ap (λ n. codes "bgp" ∷ codes "down" ∷ slice_index_or network.node_names n [] ∷ node_text network other ∷ []) low
          ∙ ap (λ n. codes "bgp" ∷ codes "down" ∷ node_text network (lesser one other) ∷ slice_index_or network.node_names n [] ∷ []) high)
      | inr after ↦
          let high : one.0 ≡ max one.0 other.0 = omega arith in
          let low : other.0 ≡ min one.0 other.0 = omega arith in
          inr (whole ∙ ap (λ n. codes "bgp" ∷ codes "down" ∷ slice_index_or network.node_names n [] ∷ node_text network other ∷ []) high
          ∙ ap (λ n. codes "bgp" ∷ codes "down" ∷ node_text network (greater one other) ∷ slice_index_or network.node_names n [] ∷ []) low)
    ]

bgp_asked : (network : Network) (ws : List (List ℕ)) (step : Step) (up : Bool) (one other : NodeNo) →
    (if up then BgpUp (lesser one other) (greater one other) else BgpDown (lesser one other) (greater one other)) ≡ step →
    ws ≡ codes "bgp" ∷ (if up then codes "up" else codes "down") ∷ node_text network one ∷ node_text network other ∷ [] → AskForStep network ws step
bgp_asked network ws step true one other same whole = subst (AskForStep network ws) same (bgp_up_asked network ws one other whole)
bgp_asked network ws step false one other same whole = subst (AskForStep network ws) same (bgp_down_asked network ws one other whole)

bgp_only : (network : Network) (ws : List (List ℕ)) (step : Step) → word_at ws 0 ≡ codes "bgp" → bgp_line network ws ≡ Ok step → AskForStep network ws step
unfolding bgp_line
bgp_only network ws step first h =
    let up = bind_ok (choice ws (codes "up") (codes "down")) _ step h in
    let full = bind_ok (counted ws 4) _ step up.2 in
    let found = bind_ok (edges_in network (word_at ws 2) (word_at ws 3)) _ step full.2 in
    let edges = edges_only network (word_at ws 2) (word_at ws 3) found.0 found.1 in
    bgp_asked network ws step up.0 found.0.0 found.0.1 (same_Ok _ step found.2)
    (of_four ws (codes "bgp") _ _ _ (counted_only ws 4 full.0 full.1) first (choice_only ws (codes "up") (codes "down") up.0 up.1) edges.0 edges.1)

route_asked : (network : Network) (ws : List (List ℕ)) (step : Step) (add : Bool) (site : SiteNo) (prefix : AddressBlock) →
    (if add then AddRoute site prefix else DelRoute site prefix) ≡ step →
    ws ≡ codes "route" ∷ (if add then codes "add" else codes "del") ∷ site_text network site ∷ prefix_text prefix ∷ [] → AskForStep network ws step
route_asked network ws step true site prefix same whole = subst (AskForStep network ws) same (inl whole)
route_asked network ws step false site prefix same whole = subst (AskForStep network ws) same (inl whole)

route_only : (network : Network) (ws : List (List ℕ)) (step : Step) → word_at ws 0 ≡ codes "route" → route_line network ws ≡ Ok step →
    AskForStep network ws step
unfolding route_line
route_only network ws step first h =
    let add = bind_ok (choice ws (codes "add") (codes "del")) _ step h in
    let full = bind_ok (counted ws 4) _ step add.2 in
    let prefix = bind_ok (prefix_in (word_at ws 3)) _ step full.2 in
    let site = bind_ok (site_in network (word_at ws 2)) _ step prefix.2 in
    route_asked network ws step add.0 site.0 prefix.0 (same_Ok _ step site.2)
    (of_four ws (codes "route") _ _ _ (counted_only ws 4 full.0 full.1) first (choice_only ws (codes "add") (codes "del") add.0 add.1)
    (site_only network (word_at ws 2) site.0 site.1) (prefix_in_only (word_at ws 3) prefix.0 prefix.1))

import_asked : (network : Network) (ws : List (List ℕ)) (step : Step) (add : Bool) (vrf : VrfNo) (target : Rt) → Import vrf add target ≡ step →
    ws ≡ codes "import" ∷ (if add then codes "add" else codes "del") ∷ vrf_text network vrf ∷ rt_text target ∷ [] → AskForStep network ws step
import_asked network ws step add vrf target same whole = subst (AskForStep network ws) same (inl whole)

-- what is read as the operands of a target is their words
target_only : (network : Network) (ws : List (List ℕ)) (first : List ℕ) (found : VrfNo × Rt × Bool) → word_at ws 0 ≡ first →
    target_operands network ws ≡ Ok found
    → ws ≡ first ∷ (if found.2 then codes "add" else codes "del") ∷ vrf_text network found.0 ∷ rt_text found.1 ∷ []
unfolding target_operands
target_only network ws first found begins h =
    let add = bind_ok (choice ws (codes "add") (codes "del")) _ found h in
    let full = bind_ok (counted ws 4) _ found add.2 in
    let target = bind_ok (target_in (word_at ws 3)) _ found full.2 in
    let vrf = bind_ok (vrf_in network (word_at ws 2)) _ found target.2 in
    let chosen = choice_only ws (codes "add") (codes "del") add.0 add.1 in
    let named = vrf_only network (word_at ws 2) vrf.0 vrf.1 in
    let valued = target_in_only (word_at ws 3) target.0 target.1 in
    subst (λ (it : VrfNo × Rt × Bool). ws ≡ first ∷ (if it.2 then codes "add" else codes "del") ∷ vrf_text network it.0 ∷ rt_text it.1 ∷ [])
    (same_Ok (vrf.0, target.0, add.0) found vrf.2)
    (of_four ws first _ _ _ (counted_only ws 4 full.0 full.1) begins chosen named valued)

import_only : (network : Network) (ws : List (List ℕ)) (step : Step) → word_at ws 0 ≡ codes "import" → import_line network ws ≡ Ok step →
    AskForStep network ws step
unfolding import_line
import_only network ws step first h =
    let found = bind_ok (target_operands network ws) _ step h in
    import_asked network ws step found.0.2 found.0.0 found.0.1 (same_Ok _ step found.2) (target_only network ws (codes "import") found.0 first found.1)

export_asked : (network : Network) (ws : List (List ℕ)) (step : Step) (add : Bool) (vrf : VrfNo) (target : Rt) → Export vrf add target ≡ step →
    ws ≡ codes "export" ∷ (if add then codes "add" else codes "del") ∷ vrf_text network vrf ∷ rt_text target ∷ [] → AskForStep network ws step
export_asked network ws step add vrf target same whole = subst (AskForStep network ws) same (inl whole)

export_only : (network : Network) (ws : List (List ℕ)) (step : Step) → word_at ws 0 ≡ codes "export" → export_line network ws ≡ Ok step →
    AskForStep network ws step
unfolding export_line
export_only network ws step first h =
    let found = bind_ok (target_operands network ws) _ step h in
    export_asked network ws step found.0.2 found.0.0 found.0.1 (same_Ok _ step found.2) (target_only network ws (codes "export") found.0 first found.1)

site_asked : (network : Network) (ws : List (List ℕ)) (step : Step) (up : Bool) (site : SiteNo) →
    (if up then Attach site else Detach site) ≡ step → ws ≡ codes "site" ∷ (if up then codes "up" else codes "down") ∷ site_text network site ∷ [] →
    AskForStep network ws step
site_asked network ws step true site same whole = subst (AskForStep network ws) same (inl whole)
site_asked network ws step false site same whole = subst (AskForStep network ws) same (inl whole)

site_line_only : (network : Network) (ws : List (List ℕ)) (step : Step) → word_at ws 0 ≡ codes "site" → site_line network ws ≡ Ok step →
    AskForStep network ws step
unfolding site_line
site_line_only network ws step first h =
    let up = bind_ok (choice ws (codes "up") (codes "down")) _ step h in
    let full = bind_ok (counted ws 3) _ step up.2 in
    let site = bind_ok (site_in network (word_at ws 2)) _ step full.2 in
    site_asked network ws step up.0 site.0 (same_Ok _ step site.2)
    (of_three ws (codes "site") _ _ (counted_only ws 3 full.0 full.1) first (choice_only ws (codes "up") (codes "down") up.0 up.1)
    (site_only network (word_at ws 2) site.0 site.1))

inject_only : (network : Network) (ws : List (List ℕ)) (step : Step) → word_at ws 0 ≡ codes "inject" → inject_line network ws ≡ Ok step →
    AskForStep network ws step
unfolding inject_line
inject_only network ws step first h =
    let full = bind_ok (counted ws 3) _ step h in
    let number = bind_ok (number_in (word_at ws 2) 1 4294967295) _ step full.2 in
    let site = bind_ok (site_in network (word_at ws 1)) _ step number.2 in
    subst (AskForStep network ws) (same_Ok (Inject site.0 number.0) step site.2)
    (inl (of_three ws (codes "inject") _ _ (counted_only ws 3 full.0 full.1) first (site_only network (word_at ws 1) site.0 site.1)
    (number_in_only (word_at ws 2) 1 4294967295 number.0 (lit< tt) number.1)))

-- what is read as the operands of a frame is their words
frame_only : (network : Network) (ws : List (List ℕ)) (first : List ℕ) (found : LinkNo × Dir × ℕ) → word_at ws 0 ≡ first → frame_operands network ws ≡ Ok found
    → ws ≡ first ∷ from_text network found.0 found.1 ∷ to_text network found.0 found.1 ∷ number_text found.2 ∷ []
unfolding frame_operands
frame_only network ws first found begins h =
    let full = bind_ok (counted ws 4) _ found h in
    let place = bind_ok (number_in (word_at ws 3) 0 4294967295) _ found full.2 in
    let link = bind_ok (link_in network (word_at ws 1) (word_at ws 2)) _ found place.2 in
    let ends = ends_only network (word_at ws 1) (word_at ws 2) link.0 link.1 in
    let numbered = number_in_only (word_at ws 3) 0 4294967295 place.0 (lit< tt) place.1 in
    subst (λ (it : LinkNo × Dir × ℕ). ws ≡ first ∷ from_text network it.0 it.1 ∷ to_text network it.0 it.1 ∷ number_text it.2 ∷ [])
    (same_Ok (link.0.0, link.0.1, place.0) found link.2)
    (of_four ws first _ _ _ (counted_only ws 4 full.0 full.1) begins ends.0 ends.1 numbered)

carry_only : (network : Network) (ws : List (List ℕ)) (step : Step) → word_at ws 0 ≡ codes "carry" → carry_line network ws ≡ Ok step →
    AskForStep network ws step
unfolding carry_line
carry_only network ws step first h =
    let found = bind_ok (frame_operands network ws) _ step h in
    subst (AskForStep network ws) (same_Ok _ step found.2) (inl (frame_only network ws (codes "carry") found.0 first found.1))

lose_only : (network : Network) (ws : List (List ℕ)) (step : Step) → word_at ws 0 ≡ codes "lose" → lose_line network ws ≡ Ok step → AskForStep network ws step
unfolding lose_line
lose_only network ws step first h =
    let found = bind_ok (frame_operands network ws) _ step h in
    subst (AskForStep network ws) (same_Ok _ step found.2) (inl (frame_only network ws (codes "lose") found.0 first found.1))

tick_only : (network : Network) (ws : List (List ℕ)) (step : Step) → word_at ws 0 ≡ codes "tick" → tick_line ws ≡ Ok step → AskForStep network ws step
unfolding tick_line
tick_only network ws step first h =
    let full = bind_ok (counted ws 2) _ step h in
    let ticks = bind_ok (number_in (word_at ws 1) 1 1000000) _ step full.2 in
    subst (AskForStep network ws) (same_Ok (Tick ticks.0) step ticks.2)
    (inl (of_two ws (codes "tick") _ (counted_only ws 2 full.0 full.1) first (number_in_only (word_at ws 1) 1 1000000 ticks.0 (lit< tt) ticks.1)))

-- 5. All of them
pub step_only : (network : Network) (ws : List (List ℕ)) (step : Step) → step_line network ws ≡ Ok step → AskForStep network ws step
unfolding step_line
step_only network ws step h0 =
    elim (either (is_word ws 0 (codes "link")) (link_line network ws) _ step h0) as (λ _. AskForStep network ws step) [
      | inl here ↦ link_only network ws step (word_is ws 0 (codes "link") here.0) here.1
      | inr h1 ↦
          elim (either (is_word ws 0 (codes "learn")) (learn_line network ws) _ step h1) as (λ _. AskForStep network ws step) [
            | inl here ↦ learn_only network ws step (word_is ws 0 (codes "learn") here.0) here.1
            | inr h2 ↦
                elim (either (is_word ws 0 (codes "ldp")) (ldp_line network ws) _ step h2) as (λ _. AskForStep network ws step) [
                  | inl here ↦ ldp_only network ws step (word_is ws 0 (codes "ldp") here.0) here.1
                  | inr h3 ↦
                      elim (either (is_word ws 0 (codes "hear")) (hear_line network ws) _ step h3) as (λ _. AskForStep network ws step) [
                        | inl here ↦ hear_only network ws step (word_is ws 0 (codes "hear") here.0) here.1
                        | inr h4 ↦
                            elim (either (is_word ws 0 (codes "bgp")) (bgp_line network ws) _ step h4) as (λ _. AskForStep network ws step) [
                              | inl here ↦ bgp_only network ws step (word_is ws 0 (codes "bgp") here.0) here.1
                              | inr h5 ↦
                                  elim (either (is_word ws 0 (codes "route")) (route_line network ws) _ step h5) as (λ _. AskForStep network ws step) [
                                    | inl here ↦ route_only network ws step (word_is ws 0 (codes "route") here.0) here.1
                                    | inr h6 ↦
                                        elim (either (is_word ws 0 (codes "import")) (import_line network ws) _ step h6) as (λ _. AskForStep network ws step) [
                                          | inl here ↦ import_only network ws step (word_is ws 0 (codes "import") here.0) here.1
                                          | inr h7 ↦
                                              elim (either (is_word ws 0 (codes "export")) (export_line network ws) _ step h7) as
                                              (λ _. AskForStep network ws step) [
                                                | inl here ↦ export_only network ws step (word_is ws 0 (codes "export") here.0) here.1
                                                | inr h8 ↦
                                                    elim (either (is_word ws 0 (codes "site")) (site_line network ws) _ step h8) as
                                                    (λ _. AskForStep network ws step) [
                                                      | inl here ↦ site_line_only network ws step (word_is ws 0 (codes "site") here.0) here.1
                                                      | inr h9 ↦
                                                          elim (either (is_word ws 0 (codes "inject")) (inject_line network ws) _ step h9) as
                                                          (λ _. AskForStep network ws step) [
                                                            | inl here ↦ inject_only network ws step (word_is ws 0 (codes "inject") here.0) here.1
                                                            | inr h10 ↦
                                                                elim (either (is_word ws 0 (codes "carry")) (carry_line network ws) _ step h10) as
                                                                (λ _. AskForStep network ws step) [
                                                                  | inl here ↦ carry_only network ws step (word_is ws 0 (codes "carry") here.0) here.1
                                                                  | inr h11 ↦
                                                                      elim (either (is_word ws 0 (codes "lose")) (lose_line network ws) _ step h11) as
                                                                      (λ _. AskForStep network ws step) [
                                                                        | inl here ↦ lose_only network ws step (word_is ws 0 (codes "lose") here.0) here.1
                                                                        | inr h12 ↦
                                                                            elim (either (is_word ws 0 (codes "tick")) (tick_line ws) _ step h12) as
                                                                            (λ _. AskForStep network ws step) [
                                                                              | inl here ↦ tick_only network ws step (word_is ws 0 (codes "tick") here.0) here.1
                                                                              | inr h13 ↦ cc
                                                                            ]
                                                                      ]
                                                                ]
                                                          ]
                                                    ]
                                              ]
                                        ]
                                  ]
                            ]
                      ]
                ]
          ]
    ]

-- 6. The other lines
one_word : (ws : List (List ℕ)) → length ws ≡ 1 → ws ≡ word_at ws 0 ∷ []
one_word [] h = absurd (omega arith)
one_word (a ∷ []) h = refl
one_word (a ∷ b ∷ ws) h = absurd (omega arith)

of_one : (ws : List (List ℕ)) (a : List ℕ) → length ws ≡ 1 → word_at ws 0 ≡ a → ws ≡ a ∷ []
of_one ws a n p = let all = one_word ws n in cc

run_only : (network : Network) (ws : List (List ℕ)) (asked : Command) → word_at ws 0 ≡ codes "run" → run_line ws ≡ Ok asked → AskFor network ws asked
unfolding run_line
run_only network ws asked first h =
    let full = bind_ok (counted ws 2) _ asked h in
    let ticks = bind_ok (number_in (word_at ws 1) 0 1000000) _ asked full.2 in
    subst (AskFor network ws) (same_Ok (command.Run ticks.0) asked ticks.2)
    (of_two ws (codes "run") _ (counted_only ws 2 full.0 full.1) first (number_in_only (word_at ws 1) 0 1000000 ticks.0 (lit< tt) ticks.1))

bounded_only : (network : Network) (ws : List (List ℕ)) (asked : Command) → word_at ws 0 ≡ codes "drain" → bounded_drain ws ≡ Ok asked → AskFor network ws asked
unfolding bounded_drain
bounded_only network ws asked first h =
    let full = bind_ok (counted ws 2) _ asked h in
    let steps = bind_ok (number_in (word_at ws 1) 0 4000000) _ asked full.2 in
    subst (AskFor network ws) (same_Ok (command.Drain (Some steps.0)) asked steps.2)
    (of_two ws (codes "drain") _ (counted_only ws 2 full.0 full.1) first (number_in_only (word_at ws 1) 0 4000000 steps.0 (lit< tt) steps.1))

drain_only : (network : Network) (ws : List (List ℕ)) (asked : Command) → word_at ws 0 ≡ codes "drain" → drain_line ws ≡ Ok asked → AskFor network ws asked
unfolding drain_line
drain_only network ws asked first h =
    elim (either (length ws == 1) (Ok (command.Drain None)) (bounded_drain ws) asked h) as (λ _. AskFor network ws asked) [
      | inl here ↦ subst (AskFor network ws) (same_Ok (command.Drain None) asked here.1) (of_one ws (codes "drain") (eqb-true (length ws) 1 here.0) first)
      | inr h1 ↦ bounded_only network ws asked first h1
    ]

flush_only : (network : Network) (ws : List (List ℕ)) (asked : Command) → word_at ws 0 ≡ codes "flush" → flush_line ws ≡ Ok asked → AskFor network ws asked
unfolding flush_line
flush_only network ws asked first h =
    let full = bind_ok (counted ws 1) _ asked h in
    subst (AskFor network ws) (same_Ok command.Flush asked full.2) (of_one ws (codes "flush") (counted_only ws 1 full.0 full.1) first)

-- the words ask for the table
AsksToShow : Network → List (List ℕ) → Show → Type 0
AsksToShow network ws what = ws ≡ show_words network what

plain_asked : (network : Network) (ws : List (List ℕ)) (what shown : Show) (text : List ℕ) → word_at ws 0 ≡ codes "show" → word_at ws 1 ≡ text →
    show_words network what ≡ codes "show" ∷ text ∷ [] → plain_show ws what ≡ Ok shown → AsksToShow network ws shown
unfolding AsksToShow plain_show
plain_asked network ws what shown text first second spelled h =
    let full = bind_ok (counted ws 2) _ shown h in
    subst (λ s. ws ≡ show_words network s) (same_Ok what shown full.2) (of_two ws (codes "show") text (counted_only ws 2 full.0 full.1) first second
    ∙ sym spelled)

tree_asked : (network : Network) (ws : List (List ℕ)) (shown : Show) → word_at ws 0 ≡ codes "show" → word_at ws 1 ≡ codes "tree" →
    show_tree network ws ≡ Ok shown → AsksToShow network ws shown
unfolding AsksToShow show_tree
tree_asked network ws shown first second h =
    let full = bind_ok (counted ws 3) _ shown h in
    let node = bind_ok (node_in network (word_at ws 2)) _ shown full.2 in
    subst (λ s. ws ≡ show_words network s) (same_Ok (table.Tree node.0) shown node.2)
    (of_three ws (codes "show") (codes "tree") _ (counted_only ws 3 full.0 full.1) first second (node_only network (word_at ws 2) node.0 node.1))

vrf_asked : (network : Network) (ws : List (List ℕ)) (shown : Show) → word_at ws 0 ≡ codes "show" → word_at ws 1 ≡ codes "vrf" →
    show_vrf network ws ≡ Ok shown → AsksToShow network ws shown
unfolding AsksToShow show_vrf
vrf_asked network ws shown first second h =
    let full = bind_ok (counted ws 3) _ shown h in
    let vrf = bind_ok (vrf_in network (word_at ws 2)) _ shown full.2 in
    subst (λ s. ws ≡ show_words network s) (same_Ok (table.Vrf vrf.0) shown vrf.2)
    (of_three ws (codes "show") (codes "vrf") _ (counted_only ws 3 full.0 full.1) first second (vrf_only network (word_at ws 2) vrf.0 vrf.1))

frame_asked : (network : Network) (ws : List (List ℕ)) (shown : Show) → word_at ws 0 ≡ codes "show" → word_at ws 1 ≡ codes "frame" →
    show_frame network ws ≡ Ok shown → AsksToShow network ws shown
unfolding AsksToShow show_frame
frame_asked network ws shown first second h =
    let full = bind_ok (counted ws 4) _ shown h in
    let number = bind_ok (number_in (word_at ws 3) 1 4294967295) _ shown full.2 in
    let node = bind_ok (node_in network (word_at ws 2)) _ shown number.2 in
    subst (λ s. ws ≡ show_words network s) (same_Ok (table.Frame node.0 number.0) shown node.2)
    (of_four ws (codes "show") (codes "frame") _ _ (counted_only ws 4 full.0 full.1) first second (node_only network (word_at ws 2) node.0 node.1)
    (number_in_only (word_at ws 3) 1 4294967295 number.0 (lit< tt) number.1))

show_only : (network : Network) (ws : List (List ℕ)) (shown : Show) → word_at ws 0 ≡ codes "show" → show_line network ws ≡ Ok shown →
    AsksToShow network ws shown
unfolding show_line
show_only network ws shown first h =
    elim (either (length ws == 1) (Err WrongCount) _ shown h) as (λ _. AsksToShow network ws shown) [
      | inl alone ↦ absurd (let wrong = alone.1 in cc)
      | inr h1 ↦
          elim (either (is_word ws 1 (codes "links")) (plain_show ws table.Links) _ shown h1) as (λ _. AsksToShow network ws shown) [
            | inl here ↦ plain_asked network ws table.Links shown (codes "links") first (word_is ws 1 (codes "links") here.0) refl here.1
            | inr h2 ↦
                elim (either (is_word ws 1 (codes "tree")) (show_tree network ws) _ shown h2) as (λ _. AsksToShow network ws shown) [
                  | inl here ↦ tree_asked network ws shown first (word_is ws 1 (codes "tree") here.0) here.1
                  | inr h3 ↦
                      elim (either (is_word ws 1 (codes "ldp")) (plain_show ws table.Ldp) _ shown h3) as (λ _. AsksToShow network ws shown) [
                        | inl here ↦ plain_asked network ws table.Ldp shown (codes "ldp") first (word_is ws 1 (codes "ldp") here.0) refl here.1
                        | inr h4 ↦
                            elim (either (is_word ws 1 (codes "bgp")) (plain_show ws table.Bgp) _ shown h4) as (λ _. AsksToShow network ws shown) [
                              | inl here ↦ plain_asked network ws table.Bgp shown (codes "bgp") first (word_is ws 1 (codes "bgp") here.0) refl here.1
                              | inr h5 ↦
                                  elim (either (is_word ws 1 (codes "vrf")) (show_vrf network ws) _ shown h5) as (λ _. AsksToShow network ws shown) [
                                    | inl here ↦ vrf_asked network ws shown first (word_is ws 1 (codes "vrf") here.0) here.1
                                    | inr h6 ↦
                                        elim (either (is_word ws 1 (codes "flight")) (plain_show ws table.Flight) _ shown h6) as
                                        (λ _. AsksToShow network ws shown) [
                                          | inl here ↦ plain_asked network ws table.Flight shown (codes "flight") first
                                              (word_is ws 1 (codes "flight") here.0) refl here.1
                                          | inr h7 ↦
                                              elim (either (is_word ws 1 (codes "frame")) (show_frame network ws) _ shown h7) as
                                              (λ _. AsksToShow network ws shown) [
                                                | inl here ↦ frame_asked network ws shown first (word_is ws 1 (codes "frame") here.0) here.1
                                                | inr h8 ↦ absurd cc
                                              ]
                                        ]
                                  ]
                            ]
                      ]
                ]
          ]
    ]

table_only : (network : Network) (ws : List (List ℕ)) (asked : Command) → word_at ws 0 ≡ codes "show" → table_line network ws ≡ Ok asked →
    AskFor network ws asked
unfolding table_line AsksToShow
table_only network ws asked first h =
    let what = bind_ok (show_line network ws) _ asked h in
    subst (AskFor network ws) (same_Ok (command.Show what.0) asked what.2) (show_only network ws what.0 first what.1)

-- the words ask for the damage
AsksToDamage : Network → List (List ℕ) → Damage → Type 0
AsksToDamage network ws damage = ws ≡ damage_words network damage

damage_ldp_only : (network : Network) (ws : List (List ℕ)) (number : ℕ) (damage : Damage) → length ws ≡ 5 → word_at ws 0 ≡ codes "damage" →
    word_at ws 1 ≡ codes "ldp" → word_at ws 4 ≡ number_text number → damage_ldp_line network ws number ≡ Ok damage → AsksToDamage network ws damage
unfolding AsksToDamage damage_ldp_line
damage_ldp_only network ws number damage five first second last h =
    let found = bind_ok (link_in network (word_at ws 2) (word_at ws 3)) _ damage h in
    let ends = ends_only network (word_at ws 2) (word_at ws 3) found.0 found.1 in
    subst (λ d. ws ≡ damage_words network d) (same_Ok (Ldp found.0.0 found.0.1 number) damage found.2)
    (of_five ws (codes "damage") (codes "ldp") _ _ _ five first second ends.0 ends.1 last)

damage_bgp_only : (network : Network) (ws : List (List ℕ)) (number : ℕ) (damage : Damage) → length ws ≡ 5 → word_at ws 0 ≡ codes "damage" →
    word_at ws 1 ≡ codes "bgp" → word_at ws 4 ≡ number_text number → damage_bgp_line network ws number ≡ Ok damage → AsksToDamage network ws damage
unfolding AsksToDamage damage_bgp_line
damage_bgp_only network ws number damage five first second last h =
    let found = bind_ok (edges_in network (word_at ws 2) (word_at ws 3)) _ damage h in
    let edges = edges_only network (word_at ws 2) (word_at ws 3) found.0 found.1 in
    subst (λ d. ws ≡ damage_words network d) (same_Ok (Bgp found.0.0 found.0.1 number) damage found.2)
    (of_five ws (codes "damage") (codes "bgp") _ _ _ five first second edges.0 edges.1 last)

damage_either : (network : Network) (ws : List (List ℕ)) (number : ℕ) (damage : Damage) (ldp : Bool) → length ws ≡ 5 → word_at ws 0 ≡ codes "damage" →
    word_at ws 1 ≡ (if ldp then codes "ldp" else codes "bgp") → word_at ws 4 ≡ number_text number →
    (if ldp then damage_ldp_line network ws number else damage_bgp_line network ws number) ≡ Ok damage → AsksToDamage network ws damage
damage_either network ws number damage true five first second last h = damage_ldp_only network ws number damage five first second last h
damage_either network ws number damage false five first second last h = damage_bgp_only network ws number damage five first second last h

damage_only : (network : Network) (ws : List (List ℕ)) (damage : Damage) → word_at ws 0 ≡ codes "damage" → damage_line network ws ≡ Ok damage →
    AsksToDamage network ws damage
unfolding damage_line
damage_only network ws damage first h =
    let ldp = bind_ok (choice ws (codes "ldp") (codes "bgp")) _ damage h in
    let full = bind_ok (counted ws 5) _ damage ldp.2 in
    let number = bind_ok (number_in (word_at ws 4) 1 4294967295) _ damage full.2 in
    damage_either network ws number.0 damage ldp.0 (counted_only ws 5 full.0 full.1) first (choice_only ws (codes "ldp") (codes "bgp") ldp.0 ldp.1)
    (number_in_only (word_at ws 4) 1 4294967295 number.0 (lit< tt) number.1) number.2

damaged_only : (network : Network) (ws : List (List ℕ)) (asked : Command) → word_at ws 0 ≡ codes "damage" → damaged_line network ws ≡ Ok asked →
    AskFor network ws asked
unfolding damaged_line AsksToDamage
damaged_only network ws asked first h =
    let damage = bind_ok (damage_line network ws) _ asked h in
    subst (AskFor network ws) (same_Ok (command.Damage damage.0) asked damage.2) (damage_only network ws damage.0 first damage.1)

do_only : (network : Network) (ws : List (List ℕ)) (asked : Command) → do_line network ws ≡ Ok asked → AskFor network ws asked
unfolding do_line
do_only network ws asked h =
    let step = bind_ok (step_line network ws) _ asked h in
    subst (AskFor network ws) (same_Ok (command.Do step.0) asked step.2) (step_only network ws step.0 step.1)

some_said : (b : Bool) (r : Result Command ScriptRule) (asked : Command) →
    ◌≡◌ {A = Result (Option Command) ScriptRule} (if b then Ok None else (r >>= (λ found. Ok (Some found)))) (Ok (Some asked)) → r ≡ Ok asked
some_said true r asked h = cc
some_said false (Ok found) asked h = let same : found ≡ asked = cc in ap Ok same
some_said false (Err rule) asked h = cc

-- only its words are read as a command
pub command_only : (network : Network) (ws : List (List ℕ)) (asked : Command) → line_says network ws ≡ Ok (Some asked) → AskFor network ws asked
unfolding line_says command_line
command_only network ws asked h =
    elim (either (is_word ws 0 (codes "run")) (run_line ws) _ asked (some_said (length ws == 0) (command_line network ws) asked h)) as
    (λ _. AskFor network ws asked) [
      | inl here ↦ run_only network ws asked (word_is ws 0 (codes "run") here.0) here.1
      | inr h1 ↦
          elim (either (is_word ws 0 (codes "drain")) (drain_line ws) _ asked h1) as (λ _. AskFor network ws asked) [
            | inl here ↦ drain_only network ws asked (word_is ws 0 (codes "drain") here.0) here.1
            | inr h2 ↦
                elim (either (is_word ws 0 (codes "flush")) (flush_line ws) _ asked h2) as (λ _. AskFor network ws asked) [
                  | inl here ↦ flush_only network ws asked (word_is ws 0 (codes "flush") here.0) here.1
                  | inr h3 ↦
                      elim (either (is_word ws 0 (codes "show")) (table_line network ws) _ asked h3) as (λ _. AskFor network ws asked) [
                        | inl here ↦ table_only network ws asked (word_is ws 0 (codes "show") here.0) here.1
                        | inr h4 ↦
                            elim (either (is_word ws 0 (codes "damage")) (damaged_line network ws) _ asked h4) as (λ _. AskFor network ws asked) [
                              | inl here ↦ damaged_only network ws asked (word_is ws 0 (codes "damage") here.0) here.1
                              | inr h5 ↦ do_only network ws asked h5
                            ]
                      ]
                ]
          ]
    ]
