-- An end of a session takes what is no UPDATE.
use Rattle.std.proofs.Common.{ℕ, zero, suc, ◌≡◌, ◌<◌, ◌==◌, true, List, [], ◌∷◌, length, map, refl, sym, ap, ◌∙◌, Option, Some, None, Result, Ok, Err}
use Rattle.std.specs.Prelude.{◌&&◌, slice_index_or, if◌then◌else◌}
use Rattle.std.proofs.lemmas.Option.{same_Some}
use Rattle.mn_base.proofs.Bools.{same_test}
use Rattle.mn_topo.specs.Network.{Network}
use Rattle.mn_bgp_wire.specs.declared.message.BgpMessage.{BgpMessage}
use Rattle.mn_bgp_wire.specs.declared.message.BgpMessage.TheVariants as messages
use Rattle.mn_bgp_session.specs.Table.{answer_in, after_message, state_if}
use Rattle.mn_bgp_session.specs.declared.session.BgpSession.{BgpSession}
use Rattle.mn_bgp_session.specs.declared.table.BgpReply.{BgpReply}
use Rattle.mn_bgp_session.specs.declared.refusal.BgpBad.{BgpBad}
use Rattle.mn_bgp_session.specs.declared.refusal.BgpBad.TheVariants.{BadPeer}
use Rattle.mn_ledger.specs.Places.{loopback}
use Rattle.mn_reflect_ledger_laws.specs.Words.{Word, Open, KeepAlive, Announce, Withdraw}
use Rattle.mn_reflect_world_laws.specs.Goes.{end_in}
use Rattle.mn_reflect.specs.Doing.{IsFirst, state_of_word, reply_of, next_of}
use Rattle.mn_reflect.proofs.Rows.{row_is}

-- 1. The end that is there

found_or : {A : Type 0} (xs : List (Option A)) (k : ℕ) (d : Option A) (x : A) → slice_index_or xs k None ≡ Some x → slice_index_or xs k d ≡ Some x
found_or [] k d x h = absurd (let clash : None ≡ Some x → ⊥ = (λ e. cc) in clash h)
found_or (y ∷ ys) zero d x h = h
found_or (y ∷ ys) (suc k) d x h = found_or ys k d x h

module _ {R : Type 0} (f : R → List (Option BgpSession)) (rows : List R) (i j a b : ℕ) (row : R) (value : row ≡ slice_index_or rows i row) (at : i ≡ a)
    (to : j ≡ b) (within : a < length (map f rows)) (cell : Option BgpSession) (got : cell ≡ slice_index_or (f row) j cell) (session : BgpSession)
    (lives : slice_index_or (slice_index_or (map f rows) a []) b None ≡ Some session) where
  pub cell_lives : cell ≡ Some session
  cell_lives =
      got ∙ ap (λ xs. slice_index_or xs j cell) (row_is f rows i j a b row value at to within)
      ∙ ap (λ k. slice_index_or (slice_index_or (map f rows) a []) k cell) to
      ∙ found_or (slice_index_or (map f rows) a []) b cell session lives

  pub end_lives : (end : BgpSession) → cell ≡ Some end → end ≡ session
  end_lives end is = same_Some end session (sym is ∙ cell_lives)

  pub not_dead : cell ≡ None → ⊥
  not_dead is = let clash : None ≡ Some session = sym is ∙ cell_lives in cc

-- 2. What it answers

module _ (t : Network) (node peer : ℕ) where
  takes_open : answer_in (end_in t node peer (state_of_word Open)) (messages.Opening 4 t.asn 0 (loopback t peer) true) ≡ Ok (reply_of Open)
  takes_open = ap (λ b. let r : Result BgpReply BgpBad = if (t.asn == t.asn) && (b && true) then Ok (reply_of Open) else Err BadPeer in r)
      (same_test (loopback t peer))
      ∙ ap (λ b. let r : Result BgpReply BgpBad = if b && true then Ok (reply_of Open) else Err BadPeer in r) (same_test t.asn)

  pub it_takes : (message : BgpMessage) (word : Word) → IsFirst t peer message word →
      answer_in (end_in t node peer (state_of_word word)) message ≡ Ok (reply_of word)
  it_takes message Open is = ap (answer_in (end_in t node peer (state_of_word Open))) is ∙ takes_open
  it_takes message KeepAlive is = ap (answer_in (end_in t node peer (state_of_word KeepAlive))) is
  it_takes message (Announce offer) is = absurd is
  it_takes message (Withdraw key) is = absurd is

  pub it_becomes : (message : BgpMessage) (word : Word) → IsFirst t peer message word →
      after_message (end_in t node peer (state_of_word word)) message ≡ end_in t node peer (next_of word)
  it_becomes message word is =
      ap (λ (r : Result BgpReply BgpBad). end_in t node peer (state_if r (state_of_word word))) (it_takes message word is) ∙ next word is
    where
      next : (v : Word) → IsFirst t peer message v → end_in t node peer (state_if (Ok (reply_of v)) (state_of_word v)) ≡ end_in t node peer (next_of v)
      next Open is = refl
      next KeepAlive is = refl
      next (Announce offer) is = absurd is
      next (Withdraw key) is = absurd is

pub one_word : (t : Network) (peer : ℕ) (message : BgpMessage) (word other : Word) → IsFirst t peer message word → IsFirst t peer message other → word ≡ other
one_word t peer message Open Open is also = refl
one_word t peer message KeepAlive KeepAlive is also = refl
one_word t peer message Open KeepAlive is also =
    let clash : messages.Opening 4 t.asn 0 (loopback t peer) true ≡ messages.KeepAlive = sym is ∙ also in absurd (no_open clash)
  where
    no_open : messages.Opening 4 t.asn 0 (loopback t peer) true ≡ messages.KeepAlive → ⊥
    no_open e = cc
one_word t peer message KeepAlive Open is also = absurd (no_open (sym is ∙ also))
  where
    no_open : messages.KeepAlive ≡ messages.Opening 4 t.asn 0 (loopback t peer) true → ⊥
    no_open e = cc
one_word t peer message (Announce offer) other is also = absurd is
one_word t peer message (Withdraw key) other is also = absurd is
one_word t peer message word (Announce offer) is also = absurd also
one_word t peer message word (Withdraw key) is also = absurd also
