use Rattle.std.proofs.Common.{◌≡◌, ◌≤◌, ◌-◌, ℕ, ◌+◌, ◌*◌, ◌++◌, List, take, drop, length, ap, ◌∙◌, sym, subst, get_or, IsTrue}
use Rattle.mn_ipv4.specs.Header.{good, ttl_of, with_ttl, aged}
use Rattle.mn_ipv4.proofs.Laws.{get_or-with_ttl}
use Rattle.mn_stack.specs.Grammar.{is_packet}
use Rattle.mn_stack.specs.Kept.{kept, IsKept}
use Rattle.mn_stack.specs.Labelled.{Labelled}
use Rattle.mn_stack.proofs.Kept.{kept-repacked, IsKept-repacked, is_packet-with_ttl, ttl_of-packet, with_ttl-is_aged_packet, all-written}
use Rattle.mn_stack.proofs.message.Frame.set_ip_ttl.Goals as goal

abbrev place : goal.After-self-1 → ℕ
place c = 4 * (c.self.inside.room + c.self.inside.depth)

abbrev packet : goal.After-self-1 → List ℕ
packet c = drop (place c) c.self.inside.bytes.items

written : (c : goal.After-self-1) → c.set_ttl_behind.new.bytes ≡ take (place c) c.self.inside.bytes.items ++ with_ttl (packet c) c.args.ttl
written c = c.set_ttl_behind.ensures.ttl ∙ ap (λ (xs : List ℕ). take (place c) xs ++ with_ttl (drop (place c) xs) c.args.ttl) c.deref_mut.ensures.value

same_length : (c : goal.After-self-1) → length c.set_ttl_behind.new.bytes ≡ length c.self.inside.bytes.items
same_length c = c.set_ttl_behind.auto.bytes ∙ ap (λ (xs : List ℕ). length xs) c.deref_mut.ensures.value

all : (c : goal.After-self-1) →
    take c.self.inside.bytes.len (c.set_ttl_behind.new.bytes ++ drop (length c.set_ttl_behind.new.bytes) c.self.inside.bytes.items) ≡
    c.set_ttl_behind.new.bytes
all c = all-written c.self.inside.bytes.len c.set_ttl_behind.new.bytes c.self.inside.bytes.items (c.set_ttl_behind.auto.bytes ∙ c.deref_mut.ensures.len)

repacked : (c : goal.After-self-1) →
    kept c.self.inside.room c.self.inside.depth c.set_ttl_behind.new.bytes ≡ record
    (kept c.self.inside.room c.self.inside.depth c.self.inside.bytes.items) { packet = with_ttl (packet c) c.args.ttl }
repacked c =
    kept-repacked c.self.inside.room c.self.inside.depth c.self.inside.bytes.items c.set_ttl_behind.new.bytes
    (with_ttl (packet c) c.args.ttl) c.self.invariant.there (written c)

still : (c : goal.After-self-1) → IsTrue (is_packet (with_ttl (packet c) c.args.ttl))
still c =
    is_packet-with_ttl (packet c) c.args.ttl c.self.invariant.packet
    (subst (λ (xs : List ℕ). IsTrue (good xs)) (ap (λ (f : Labelled). f.packet) (repacked c)) c.set_ttl_behind.ensures.still_good)

pub invariant_of-self : goal.invariant_of-self
invariant_of-self c =
    subst (λ (xs : List ℕ). IsKept c.self.inside.room c.self.inside.depth xs) (sym (all c))
    (IsKept-repacked c.self.inside.room c.self.inside.depth c.self.inside.bytes.items c.set_ttl_behind.new.bytes
    (with_ttl (packet c) c.args.ttl) c.self.invariant (same_length c) (written c) (still c))

-- the packet after the call
new_packet : (c : goal.After-self-1) →
    (kept c.self.inside.room c.self.inside.depth
    (take c.self.inside.bytes.len (c.set_ttl_behind.new.bytes ++ drop (length c.set_ttl_behind.new.bytes) c.self.inside.bytes.items))).packet ≡ with_ttl
    (packet c) c.args.ttl
new_packet c = ap (λ (xs : List ℕ). (kept c.self.inside.room c.self.inside.depth xs).packet) (all c) ∙ ap (λ (f : Labelled). f.packet) (repacked c)

pub returns-clause-packet : goal.returns-clause-packet
returns-clause-packet c =
    ap (λ (xs : List ℕ). kept c.self.inside.room c.self.inside.depth xs) (all c)
    ∙ repacked c
    ∙ ap (λ (f : Labelled). record f { packet = with_ttl f.packet c.args.ttl }) c.self.view_is

pub returns-clause-ttl_is : goal.returns-clause-ttl_is
returns-clause-ttl_is c = ap ttl_of (new_packet c) ∙ ttl_of-packet (packet c) c.args.ttl c.self.invariant.packet

pub returns-clause-still_packet : goal.returns-clause-still_packet
returns-clause-still_packet c = subst (λ (xs : List ℕ). IsTrue (is_packet xs)) (sym (new_packet c)) (still c)

pub returns-clause-as_aged : goal.returns-clause-as_aged
returns-clause-as_aged c low =
    let same : packet c ≡ c.args.self.now.packet = ap (λ (f : Labelled). f.packet) c.self.view_is in
    let fits : c.args.ttl ≤ ttl_of (packet c) = rw same low in
    new_packet c ∙ with_ttl-is_aged_packet (packet c) c.args.ttl c.self.invariant.packet fits ∙ ap (λ (xs : List ℕ). aged xs (ttl_of xs - c.args.ttl)) same

pub returns-clause-others : goal.returns-clause-others
returns-clause-others c i not_ttl not_high not_low =
    let same : packet c ≡ c.args.self.now.packet = ap (λ (f : Labelled). f.packet) c.self.view_is in
    ap (λ (xs : List ℕ). get_or xs i 0) (new_packet c)
    ∙ get_or-with_ttl (packet c) c.args.ttl i not_ttl not_high not_low
    ∙ ap (λ (xs : List ℕ). get_or xs i 0) same
