-- Failures that are played one behind the other.
use Rattle.std.proofs.Common.{◌≡◌, ◌+◌, ◌-◌, ◌<◌, ◌≤◌, ℕ, List, [], ◌∷◌, ◌++◌, length, get_or, take, drop, refl, ap, sym, ◌∙◌, subst, append-nil, arith, Ok}
use Rattle.std.proofs.Common.{Err, map}
use Rattle.std.specs.List.{flat_map, range_with_len}
use Rattle.std.proofs.lemmas.List.{take_all, take_more, take-append-drop}
use Rattle.std.proofs.lemmas.List.FromFn.{length-range_with_len, get_or-range_with_len}
use Rattle.std.proofs.lemmas.Grind.{flat_map-append}
use Rattle.mn_edge.specs.declared.device.DeviceBad.{DeviceBad}
use Rattle.mn_edge.specs.declared.device.DeviceBad.TheVariants.{NoMemory}
use Rattle.mn_topo.specs.Network.{Network}
use Rattle.mn_tables.proofs.Telling.{Answer, IsErrOnly}
use Rattle.mn_failures.specs.declared.command.Part.{Part}
use Rattle.mn_reach_run.specs.declared.settings.Settings.{Settings}
use Rattle.mn_reach_run.specs.Report.{numbered, sums_in}
use Rattle.mn_reach_run.specs.Playing.{Now, Sweeps}
use Rattle.mn_reach_run.proofs.Counting.{numbered_append, numbered_failures}
use Rattle.mn_reach_run.proofs.Playing.{plays_none, plays_then, plays_cut, plays_as, plays_err, plays_want, plays_want_behind}

-- 1. Nothing, and some behind others

module _ (topology : Network) (settings : Settings) (line : ℕ) where
  pub sweeps_none : (now : Now) → Sweeps topology settings line [] now now (Ok tt)
  sweeps_none now = plays_none topology now

  pub sweeps_as : (xs ys : List (List Part)) (s t : Now) (r : Answer) → xs ≡ ys → Sweeps topology settings line xs s t r →
      Sweeps topology settings line ys s t r
  sweeps_as xs ys s t r is sweeps = subst (λ these. Sweeps topology settings line these s t r) is sweeps

  pub sweeps_then : (xs ys : List (List Part)) (s t u : Now) (r : Answer) → Sweeps topology settings line xs s t (Ok tt) →
      Sweeps topology settings line ys t u r →
      Sweeps topology settings line (xs ++ ys) s u r
  sweeps_then xs ys s t u r one two =
      plays_as topology
      (λ number. numbered settings number line xs ++ numbered settings (number + (sums_in topology (numbered settings number line xs)).failures) line ys)
      (λ number. numbered settings number line (xs ++ ys)) s u r
      (λ number. ap (λ n. numbered settings number line xs ++ numbered settings (number + n) line ys) (numbered_failures topology settings number line xs)
      ∙ sym (numbered_append settings number line xs ys))
      (plays_then topology (λ number. numbered settings number line xs) (λ number. numbered settings number line ys) s t u r one two)

  pub sweeps_err : (xs : List (List Part)) (s t : Now) (e : DeviceBad) (r : Answer) → IsErrOnly r e → Sweeps topology settings line xs s t (Err e) →
      Sweeps topology settings line xs s t r
  sweeps_err xs s t e r from one = plays_err topology (λ number. numbered settings number line xs) s t e r from one

  pub sweeps_want : (xs : List (List Part)) (now : Now) → Sweeps topology settings line xs now now (Err NoMemory)
  sweeps_want xs now = plays_want topology (λ number. numbered settings number line xs) now

  pub sweeps_want_behind : (xs : List (List Part)) (s t : Now) → Sweeps topology settings line xs s t (Ok tt) →
      Sweeps topology settings line xs s t (Err NoMemory)
  sweeps_want_behind xs s t one = plays_want_behind topology (λ number. numbered settings number line xs) s t one

  pub sweeps_cut : (xs ys : List (List Part)) (s t : Now) (e : DeviceBad) (r : Answer) → IsErrOnly r e → Sweeps topology settings line xs s t (Err e) →
      Sweeps topology settings line (xs ++ ys) s t r
  sweeps_cut xs ys s t e r from one =
      plays_as topology (λ number. numbered settings number line xs ++ numbered settings (number + length xs) line ys)
      (λ number. numbered settings number line (xs ++ ys)) s t r (λ number. sym (numbered_append settings number line xs ys))
      (plays_cut topology (λ number. numbered settings number line xs) (λ number. numbered settings (number + length xs) line ys) s t e r from one)

-- 2. Over a list

module _ {X : Type 0} (f : X → List (List Part)) (xs : List X) where
  more_of : (i : ℕ) (d : X) → i < length xs → flat_map f (take (i + 1) xs) ≡ flat_map f (take i xs) ++ f (get_or xs i d)
  more_of i d below =
      ap (flat_map f) (take_more xs i d below) ∙ flat_map-append f (take i xs) (get_or xs i d ∷ [])
      ∙ ap (λ ys. flat_map f (take i xs) ++ ys) (append-nil (f (get_or xs i d)))

  rest_of : (i : ℕ) → flat_map f (take i xs) ++ flat_map f (drop i xs) ≡ flat_map f xs
  rest_of i = sym (flat_map-append f (take i xs) (drop i xs)) ∙ ap (flat_map f) (take-append-drop i xs)

  module _ (topology : Network) (settings : Settings) (line : ℕ) (i : ℕ) (d : X) (s t u : Now) where
    pub sweeps_next : i < length xs → Sweeps topology settings line (flat_map f (take i xs)) s t (Ok tt) →
        Sweeps topology settings line (f (get_or xs i d)) t u (Ok tt) →
        Sweeps topology settings line (flat_map f (take (i + 1) xs)) s u (Ok tt)
    sweeps_next below before this =
        sweeps_as topology settings line (flat_map f (take i xs) ++ f (get_or xs i d)) (flat_map f (take (i + 1) xs)) s u (Ok tt) (sym (more_of i d below))
        (sweeps_then topology settings line (flat_map f (take i xs)) (f (get_or xs i d)) s t u (Ok tt) before this)

    pub sweeps_cut_at : (e : DeviceBad) (r : Answer) → IsErrOnly r e → i < length xs → Sweeps topology settings line (flat_map f (take i xs)) s t (Ok tt) →
        Sweeps topology settings line (f (get_or xs i d)) t u (Err e) → Sweeps topology settings line (flat_map f xs) s u r
    sweeps_cut_at e r from below before this =
        sweeps_as topology settings line ((flat_map f (take i xs) ++ f (get_or xs i d)) ++ flat_map f (drop (i + 1) xs)) (flat_map f xs) s u r
        (ap (λ ys. ys ++ flat_map f (drop (i + 1) xs)) (sym (more_of i d below)) ∙ rest_of (i + 1))
        (sweeps_cut topology settings line (flat_map f (take i xs) ++ f (get_or xs i d)) (flat_map f (drop (i + 1) xs)) s u e r from
        (sweeps_then topology settings line (flat_map f (take i xs)) (f (get_or xs i d)) s t u (Err e) before this))

  pub sweeps_all : (topology : Network) (settings : Settings) (line : ℕ) (i : ℕ) (s t : Now) → length xs ≤ i →
      Sweeps topology settings line (flat_map f (take i xs)) s t (Ok tt) → Sweeps topology settings line (flat_map f xs) s t (Ok tt)
  sweeps_all topology settings line i s t past before =
      sweeps_as topology settings line (flat_map f (take i xs)) (flat_map f xs) s t (Ok tt) (ap (flat_map f) (take_all i xs past)) before

-- 3. Over the numbers from one on

module _ (f : ℕ → List (List Part)) (first count : ℕ) (topology : Network) (settings : Settings) (line : ℕ) where
  numbers : (i number : ℕ) → number ≡ first + i → i < count → f number ≡ f (get_or (range_with_len first count) i 0)
  numbers i number is below = ap f (is ∙ sym (get_or-range_with_len first count i 0 below))

  pub numbers_next : (i number : ℕ) (s t u : Now) → number ≡ first + i → i < count →
      Sweeps topology settings line (flat_map f (take i (range_with_len first count))) s t (Ok tt) → Sweeps topology settings line (f number) t u (Ok tt) →
      Sweeps topology settings line (flat_map f (take (i + 1) (range_with_len first count))) s u (Ok tt)
  numbers_next i number s t u is below before this =
      sweeps_next f (range_with_len first count) topology settings line i 0 s t u (rw length-range_with_len below) before
      (sweeps_as topology settings line (f number) (f (get_or (range_with_len first count) i 0)) t u (Ok tt) (numbers i number is below) this)

  pub numbers_cut : (i number : ℕ) (s t u : Now) (e : DeviceBad) (r : Answer) → IsErrOnly r e → number ≡ first + i → i < count →
      Sweeps topology settings line (flat_map f (take i (range_with_len first count))) s t (Ok tt) → Sweeps topology settings line (f number) t u (Err e) →
      Sweeps topology settings line (flat_map f (range_with_len first count)) s u r
  numbers_cut i number s t u e r from is below before this =
      sweeps_cut_at f (range_with_len first count) topology settings line i 0 s t u e r from (rw length-range_with_len below) before
      (sweeps_as topology settings line (f number) (f (get_or (range_with_len first count) i 0)) t u (Err e) (numbers i number is below) this)

  pub numbers_all : (i : ℕ) (s t : Now) → count ≤ i → Sweeps topology settings line (flat_map f (take i (range_with_len first count))) s t (Ok tt) →
      Sweeps topology settings line (flat_map f (range_with_len first count)) s t (Ok tt)
  numbers_all i s t past before = sweeps_all f (range_with_len first count) topology settings line i s t (rw length-range_with_len past) before

-- by the number itself, which is one of those
module _ (f : ℕ → List (List Part)) (first end : ℕ) (topology : Network) (settings : Settings) (line : ℕ) where
  pub from_none : (now : Now) → Sweeps topology settings line (flat_map f (take (first - first) (range_with_len first (end - first)))) now now (Ok tt)
  from_none now =
      let none : first - first ≡ 0 = omega arith in
      sweeps_as topology settings line [] (flat_map f (take (first - first) (range_with_len first (end - first)))) now now (Ok tt)
      (ap (λ n. flat_map f (take n (range_with_len first (end - first)))) (sym none)) (sweeps_none topology settings line now)

  pub from_next : (number : ℕ) (s t u : Now) → first ≤ number → number < end →
      Sweeps topology settings line (flat_map f (take (number - first) (range_with_len first (end - first)))) s t (Ok tt) →
      Sweeps topology settings line (f number) t u (Ok tt) →
      Sweeps topology settings line (flat_map f (take ((number + 1) - first) (range_with_len first (end - first)))) s u (Ok tt)
  from_next number s t u past below before this =
      let more : (number - first) + 1 ≡ (number + 1) - first = omega arith in
      sweeps_as topology settings line (flat_map f (take ((number - first) + 1) (range_with_len first (end - first))))
      (flat_map f (take ((number + 1) - first) (range_with_len first (end - first)))) s u (Ok tt)
      (ap (λ n. flat_map f (take n (range_with_len first (end - first)))) more)
      (numbers_next f first (end - first) topology settings line (number - first) number s t u (omega arith) (omega arith) before this)

  pub from_cut : (number : ℕ) (s t u : Now) (e : DeviceBad) (r : Answer) → IsErrOnly r e → first ≤ number → number < end →
      Sweeps topology settings line (flat_map f (take (number - first) (range_with_len first (end - first)))) s t (Ok tt) →
      Sweeps topology settings line (f number) t u (Err e) → Sweeps topology settings line (flat_map f (range_with_len first (end - first))) s u r
  from_cut number s t u e r from past below before this =
      numbers_cut f first (end - first) topology settings line (number - first) number s t u e r from (omega arith) (omega arith) before this

  pub from_all : (number : ℕ) (s t : Now) → end ≤ number →
      Sweeps topology settings line (flat_map f (take (number - first) (range_with_len first (end - first)))) s t (Ok tt) →
      Sweeps topology settings line (flat_map f (range_with_len first (end - first))) s t (Ok tt)
  from_all number s t past before = numbers_all f first (end - first) topology settings line (number - first) s t (omega arith) before

-- 4. In other words

pub mapped : {X Y : Type 0} (f : X → Y) (xs : List X) → flat_map (λ x. f x ∷ []) xs ≡ map f xs
mapped f [] = refl
mapped f (x ∷ xs) = ap (λ ys. f x ∷ ys) (mapped f xs)
