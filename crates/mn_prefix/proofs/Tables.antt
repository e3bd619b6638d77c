-- A list of pairs as a table: a place found, a value set, a pair added, a pair taken out.
use Rattle.std.proofs.Common.{◌≡◌, ◌<◌, ◌≤◌, ◌+◌, ℕ, suc, Bool, true, false, not, cond, nat_lt, List, [], ◌∷◌, ◌++◌, length, Option, Some, None, position}
use Rattle.std.proofs.Common.{refl, ap, sym, ◌∙◌, subst, arith}
use Rattle.std.specs.Prelude.{◌==◌, slice_set, slice_index_or, remove, insert}
use Rattle.std.specs.Option.{IsSome, is_some}
use Rattle.std.specs.List.{IsDistinct, AllByRecursion, position_or_len, list_any}
use Rattle.std.specs.Cmp.{IsEquivalence}
use Rattle.std.specs.Map.{set_value, remove_entry, keys_of}
use Rattle.std.proofs.lemmas.Bool.{eqb-true, and_parts, ltb-true}
use Rattle.std.proofs.lemmas.Bool.Decides.{nat_tests}
use Rattle.std.proofs.lemmas.List.{map-append}
use Rattle.std.proofs.Math.Seq.{take-length, drop-length}
use Rattle.std.proofs.lemmas.Option.{same_Some}
use Rattle.std.proofs.lemmas.Cmp.{and_equiv, nat_eq_equiv, on_equiv}
use Rattle.std.proofs.lemmas.Map.{lookup-set_value, lookup-remove_entry, lookup-insert, none_passes_from_lookup, keys-set_value}
use Rattle.std.proofs.lemmas.Map.Keys.{IsDistinct-push}
use Rattle.std.proofs.lemmas.Map.Made.{is_some-lookup}
use Rattle.mn_prefix.specs.Prefix.{AddressBlock, IsPrefix, same_prefix}
use Rattle.mn_prefix.specs.Table.{IsTable, value_at, ChangesOnly}

-- 1. The test of prefixes
pub same_is : IsEquivalence same_prefix
same_is = and_equiv (on_equiv (λ (p : AddressBlock). p.address) nat_eq_equiv) (on_equiv (λ (p : AddressBlock). p.length) nat_eq_equiv)

pub same_exact : (p q : AddressBlock) → same_prefix p q ≡ true → p ≡ q
same_exact p q h =
    let parts = and_parts (p.address == q.address) (p.length == q.length) h in
    ap (λ n. record { address = n; length = p.length }) (eqb-true _ _ parts.0) ∙ ap (λ n. record { address = q.address; length = n }) (eqb-true _ _ parts.1)

one : (p x y : AddressBlock) → same_prefix p x ≡ true → same_prefix p y ≡ same_prefix x y
one p x y h = same_is.congr p x y h

-- 2. Places
place_step : (b : Bool) (n m : ℕ) → ◌≡◌ {A = Option ℕ} (cond b (Some n) None) (Some m) → (b ≡ true) × (n ≡ m)
place_step true n m h = (refl, same_Some n m h)
place_step false n m h = cc

no_place : (b : Bool) (n : ℕ) → ◌≡◌ {A = Option ℕ} (cond b (Some n) None) None → b ≡ false
no_place true n h = cc
no_place false n h = refl

more : (n : ℕ) → 1 + n ≡ suc n
more n = omega arith

all_push : (P : AddressBlock → Type 0) (ks : List AddressBlock) (k : AddressBlock) → AllByRecursion P ks → P k → AllByRecursion P (ks ++ k ∷ [])
all_push P [] k h q = (q, tt)
all_push P (x ∷ xs) k h q = (h.0, all_push P xs k h.1 q)

module _ {T : Type 0} where
  held_at : (p : AddressBlock) (es : List (AddressBlock × T)) (d : AddressBlock × T) → position_or_len (λ e. same_prefix p e.0) es < length es →
      value_at p es ≡ Some (slice_index_or es (position_or_len (λ e. same_prefix p e.0) es) d).1
  held_at p [] d h = absurd (omega arith)
  held_at p (e ∷ es) d h =
      elim (same_prefix p e.0) as (λ b. cond (not b) (1 + position_or_len (λ e. same_prefix p e.0) es) 0 < suc (length es) →
      cond b (Some e.1) (value_at p es) ≡ Some (slice_index_or (e ∷ es) (cond (not b) (1 + position_or_len (λ e. same_prefix p e.0) es) 0) d).1) [
        | true ↦ λ k. refl
        | false ↦ λ k. held_at p es d (omega arith) ∙ ap (λ n. Some (slice_index_or (e ∷ es) n d).1) (sym (more _))
      ] h

  none_at : (p : AddressBlock) (es : List (AddressBlock × T)) → length es ≤ position_or_len (λ e. same_prefix p e.0) es → value_at p es ≡ None
  none_at p [] h = refl
  none_at p (e ∷ es) h =
      elim (same_prefix p e.0) as (λ b. suc (length es) ≤ cond (not b) (1 + position_or_len (λ e. same_prefix p e.0) es) 0 →
      cond b (Some e.1) (value_at p es) ≡ None) [
        | true ↦ λ k. absurd (omega arith)
        | false ↦ λ k. none_at p es (omega arith)
      ] h

  set_at : (p : AddressBlock) (es : List (AddressBlock × T)) (d : AddressBlock × T) (v : T) → position_or_len (λ e. same_prefix p e.0) es < length es →
      slice_set es (position_or_len (λ e. same_prefix p e.0) es) ((slice_index_or es (position_or_len (λ e. same_prefix p e.0) es) d).0, v) ≡ set_value
      (same_prefix p) es v
  set_at p [] d v h = absurd (omega arith)
  set_at p (e ∷ es) d v h =
      elim (same_prefix p e.0) as (λ b. cond (not b) (1 + position_or_len (λ e. same_prefix p e.0) es) 0 < suc (length es) →
      slice_set (e ∷ es) (cond (not b) (1 + position_or_len (λ e. same_prefix p e.0) es) 0)
      ((slice_index_or (e ∷ es) (cond (not b) (1 + position_or_len (λ e. same_prefix p e.0) es) 0) d).0, v) ≡ cond b ((e.0, v) ∷ es)
      (e ∷ set_value (same_prefix p) es v)) [
        | true ↦ λ k. refl
        | false ↦ λ k. ap (λ n. slice_set (e ∷ es) n ((slice_index_or (e ∷ es) n d).0, v)) (more _) ∙ ap (λ l. e ∷ l) (set_at p es d v (omega arith))
      ] h

  taken_at : (p : AddressBlock) (es : List (AddressBlock × T)) → position_or_len (λ e. same_prefix p e.0) es < length es →
      remove es (position_or_len (λ e. same_prefix p e.0) es) ≡ remove_entry (same_prefix p) es
  taken_at p [] h = absurd (omega arith)
  taken_at p (e ∷ es) h =
      elim (same_prefix p e.0) as (λ b. cond (not b) (1 + position_or_len (λ e. same_prefix p e.0) es) 0 < suc (length es) →
      remove (e ∷ es) (cond (not b) (1 + position_or_len (λ e. same_prefix p e.0) es) 0) ≡ cond b es (e ∷ remove_entry (same_prefix p) es)) [
        | true ↦ λ k. refl
        | false ↦ λ k. ap (λ n. remove (e ∷ es) n) (more _) ∙ ap (λ l. e ∷ l) (taken_at p es (omega arith))
      ] h

  found : (p : AddressBlock) (es : List (AddressBlock × T)) (i : ℕ) → position (λ e. same_prefix p e.0) es ≡ Some i →
      (position_or_len (λ e. same_prefix p e.0) es < length es) × (position_or_len (λ e. same_prefix p e.0) es ≡ i)
  found p es i h =
      let s = place_step (nat_lt (position_or_len (λ e. same_prefix p e.0) es) (length es)) (position_or_len (λ e. same_prefix p e.0) es) i h in
      (ltb-true _ _ s.0, s.1)

  -- the value at the place that was found, and what stands there after a write
  pub value_found : (p : AddressBlock) (es : List (AddressBlock × T)) (i : ℕ) (d : AddressBlock × T) → position (λ e. same_prefix p e.0) es ≡ Some i →
      value_at p es ≡ Some (slice_index_or es i d).1
  value_found p es i d h = let f = found p es i h in subst (λ n. value_at p es ≡ Some (slice_index_or es n d).1) f.1 (held_at p es d f.0)

  pub value_missing : (p : AddressBlock) (es : List (AddressBlock × T)) → position (λ e. same_prefix p e.0) es ≡ None → value_at p es ≡ None
  value_missing p es h =
      let past : nat_lt (position_or_len (λ e. same_prefix p e.0) es) (length es) ≡ false = no_place _ _ h in
      none_at p es (grind (arith, nat_tests, past))

  set_found : (p : AddressBlock) (es : List (AddressBlock × T)) (i : ℕ) (d : AddressBlock × T) (v : T) → position (λ e. same_prefix p e.0) es ≡ Some i →
      slice_set es i ((slice_index_or es i d).0, v) ≡ set_value (same_prefix p) es v
  set_found p es i d v h = let f = found p es i h in
      subst (λ n. slice_set es n ((slice_index_or es n d).0, v) ≡ set_value (same_prefix p) es v) f.1 (set_at p es d v f.0)

  taken_found : (p : AddressBlock) (es : List (AddressBlock × T)) (i : ℕ) → position (λ e. same_prefix p e.0) es ≡ Some i →
      remove es i ≡ remove_entry (same_prefix p) es
  taken_found p es i h = let f = found p es i h in subst (λ n. remove es n ≡ remove_entry (same_prefix p) es) f.1 (taken_at p es f.0)

  -- 3. Changes
  changed_by : (old new : List (AddressBlock × T)) (p : AddressBlock) (value : Option T) →
      ((q : AddressBlock) → value_at q new ≡ cond (same_prefix p q) value (value_at q old)) → ChangesOnly old new p value
  changed_by old new p value h = record {
    changed = h p ∙ rw (same_is.refl p) refl;
    others = λ q apart. h q ∙ rw apart refl;
  }

  set_changes : (p : AddressBlock) (es : List (AddressBlock × T)) (v : T) → IsSome (value_at p es) → ChangesOnly es (set_value (same_prefix p) es v) p (Some v)
  set_changes p es v h = changed_by es _ p (Some v) (λ q. lookup-set_value same_is (same_prefix p) (one p) q v es h)

  set_keeps : (p : AddressBlock) (es : List (AddressBlock × T)) (v : T) → IsTable es → IsTable (set_value (same_prefix p) es v)
  set_keeps p es v h = record {
    distinct = subst (IsDistinct same_prefix) (sym (keys-set_value (same_prefix p) es v)) h.distinct;
    prefixes = subst (AllByRecursion (λ q. IsPrefix q.address q.length)) (sym (keys-set_value (same_prefix p) es v)) h.prefixes;
  }

  taken_changes : (p : AddressBlock) (es : List (AddressBlock × T)) → IsTable es → ChangesOnly es (remove_entry (same_prefix p) es) p None
  taken_changes p es h = changed_by es _ p None (λ q. lookup-remove_entry same_is (same_prefix p) (one p) q es h.distinct)

  all_but : (P : AddressBlock → Type 0) (p : AddressBlock) (es : List (AddressBlock × T)) → AllByRecursion P (keys_of es) →
      AllByRecursion P (keys_of (remove_entry (same_prefix p) es))
  all_but P p [] h = h
  all_but P p (e ∷ es) h =
      elim (same_prefix p e.0) as (λ b. AllByRecursion P (keys_of (cond b es (e ∷ remove_entry (same_prefix p) es)))) [
        | true ↦ h.1
        | false ↦ (h.0, all_but P p es h.1)
      ]

  distinct_but : (p : AddressBlock) (es : List (AddressBlock × T)) → IsDistinct same_prefix (keys_of es) →
      IsDistinct same_prefix (keys_of (remove_entry (same_prefix p) es))
  unfolding IsDistinct
  distinct_but p [] h = h
  distinct_but p (e ∷ es) h =
      elim (same_prefix p e.0) as (λ b. IsDistinct same_prefix (keys_of (cond b es (e ∷ remove_entry (same_prefix p) es)))) [
        | true ↦ h.1
        | false ↦ (all_but (λ y. same_prefix e.0 y ≡ false) p es h.0, distinct_but p es h.1)
      ]

  taken_keeps : (p : AddressBlock) (es : List (AddressBlock × T)) → IsTable es → IsTable (remove_entry (same_prefix p) es)
  taken_keeps p es h = record { distinct = distinct_but p es h.distinct; prefixes = all_but (λ q. IsPrefix q.address q.length) p es h.prefixes }

  lookup_push : (p q : AddressBlock) (v : T) (es : List (AddressBlock × T)) → value_at p es ≡ None →
      value_at q (es ++ (p, v) ∷ []) ≡ cond (same_prefix p q) (Some v) (value_at q es)
  lookup_push p q v es h =
      subst (λ l. value_at q l ≡ cond (same_prefix p q) (Some v) (value_at q es)) (insert_end es (p, v))
      (lookup-insert same_is p v q es (length es) (none_passes_from_lookup (same_prefix p) es h))
    where
      insert_end : (l : List (AddressBlock × T)) (e : AddressBlock × T) → insert l (length l) e ≡ l ++ e ∷ []
      insert_end l e = rw (take-length l, drop-length l) refl

  pub push_changes : (p : AddressBlock) (v : T) (es : List (AddressBlock × T)) → value_at p es ≡ None → ChangesOnly es (es ++ (p, v) ∷ []) p (Some v)
  push_changes p v es h = changed_by es _ p (Some v) (λ q. lookup_push p q v es h)

  pub push_keeps : (p : AddressBlock) (v : T) (es : List (AddressBlock × T)) → IsTable es → IsPrefix p.address p.length → value_at p es ≡ None →
      IsTable (es ++ (p, v) ∷ [])
  push_keeps p v es h form none =
      let keys : keys_of (es ++ (p, v) ∷ []) ≡ keys_of es ++ p ∷ [] = map-append (λ (e : AddressBlock × T). e.0) es ((p, v) ∷ []) in
      let apart : list_any (same_prefix p) (keys_of es) ≡ false = sym (is_some-lookup (same_prefix p) es) ∙ ap (λ o. is_some o) none in
      record {
        distinct = subst (IsDistinct same_prefix) (sym keys) (IsDistinct-push same_is (keys_of es) p h.distinct apart);
        prefixes =
            subst (AllByRecursion (λ q. IsPrefix q.address q.length)) (sym keys)
            (all_push (λ q. IsPrefix q.address q.length) (keys_of es) p h.prefixes form);
      }

  -- 4. As the calls of a table of pairs cite it
  pub at_place : (p : AddressBlock) (l es : List (AddressBlock × T)) (r o : Option ℕ) → r ≡ position (λ e. same_prefix p e.0) l → l ≡ es → r ≡ o →
      position (λ e. same_prefix p e.0) es ≡ o
  at_place p l es r o h e k = subst (λ l. position (λ e. same_prefix p e.0) l ≡ o) e (sym h ∙ k)

  set_pair : (p : AddressBlock) (es : List (AddressBlock × T)) (i : ℕ) (e : AddressBlock × T) (v w : T) → position (λ e. same_prefix p e.0) es ≡ Some i →
      e ≡ slice_index_or es i e → w ≡ v → slice_set es i (e.0, w) ≡ set_value (same_prefix p) es v
  set_pair p es i e v w h k q =
      ap (λ (x : AddressBlock × T). slice_set es i (x.0, w)) k ∙ ap (λ (u : T). slice_set es i ((slice_index_or es i e).0, u)) q ∙ set_found p es i e v h

  is_some_by : (o : Option T) (v : T) → o ≡ Some v → IsSome o
  is_some_by o v h = ap (λ o. is_some o) h

  pub write_changes : (p : AddressBlock) (es : List (AddressBlock × T)) (i : ℕ) (e : AddressBlock × T) (v w : T) →
      position (λ e. same_prefix p e.0) es ≡ Some i → e ≡ slice_index_or es i e → w ≡ v → ChangesOnly es (slice_set es i (e.0, w)) p (Some v)
  write_changes p es i e v w h k q =
      subst (λ l. ChangesOnly es l p (Some v)) (sym (set_pair p es i e v w h k q)) (set_changes p es v (is_some_by _ _ (value_found p es i e h)))

  pub write_keeps : (p : AddressBlock) (es : List (AddressBlock × T)) (i : ℕ) (e : AddressBlock × T) (v w : T) →
      position (λ e. same_prefix p e.0) es ≡ Some i → e ≡ slice_index_or es i e → w ≡ v → IsTable es → IsTable (slice_set es i (e.0, w))
  write_keeps p es i e v w h k q t = subst IsTable (sym (set_pair p es i e v w h k q)) (set_keeps p es v t)

  pub remove_changes : (p : AddressBlock) (es : List (AddressBlock × T)) (i : ℕ) → position (λ e. same_prefix p e.0) es ≡ Some i → IsTable es →
      ChangesOnly es (remove es i) p None
  remove_changes p es i h t = subst (λ l. ChangesOnly es l p None) (sym (taken_found p es i h)) (taken_changes p es t)

  pub remove_keeps : (p : AddressBlock) (es : List (AddressBlock × T)) (i : ℕ) → position (λ e. same_prefix p e.0) es ≡ Some i → IsTable es →
      IsTable (remove es i)
  remove_keeps p es i h t = subst IsTable (sym (taken_found p es i h)) (taken_keeps p es t)

  pub nothing_changes : (p : AddressBlock) (es : List (AddressBlock × T)) → position (λ e. same_prefix p e.0) es ≡ None → ChangesOnly es es p None
  nothing_changes p es h = record { changed = value_missing p es h; others = λ q apart. refl }

  pub nothing_held : (es : List (AddressBlock × T)) → es ≡ [] → IsTable es
  unfolding IsDistinct
  nothing_held es h = subst IsTable (sym h) (record { distinct = tt; prefixes = tt })

  pub none_held : {R : Type 0} (p : AddressBlock) (es : List (AddressBlock × T)) → position (λ e. same_prefix p e.0) es ≡ None → IsSome (value_at p es) → R
  none_held p es h some = absurd (neither (value_at p es) (value_missing p es h) some)
    where
      neither : (o : Option T) → o ≡ None → IsSome o → ⊥
      neither None e s = cc
      neither (Some x) e s = cc
