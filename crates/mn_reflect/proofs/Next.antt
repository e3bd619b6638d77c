-- The next message that a node receives from a peer, as it is read.
use Rattle.std.proofs.Common.{ℕ, ◌≡◌, List, sym, subst, ap, ◌∙◌, Option, Some, None, Result}
use Rattle.std.specs.Prelude.{OnOk}
use Rattle.std.proofs.lemmas.Option.{same_Some}
use Rattle.mn_topo.specs.Network.{Network}
use Rattle.mn_topo.specs.Lawful.{IsLawful}
use Rattle.mn_bgp_wire.specs.Grammar.{IsBgp}
use Rattle.mn_bgp_wire.specs.declared.message.BgpMessage.{BgpMessage}
use Rattle.mn_bgp_reflected.specs.Says.{SaysReflected}
use Rattle.mn_bgp_reflected.specs.Grammar.{IsReflected}
use Rattle.mn_bgp_spelling_laws.specs.Spelling.{Labels}
use Rattle.mn_mail.specs.Mail.{Letter, first_from_to}
use Rattle.mn_offers.specs.Heard.{Heard}
use Rattle.mn_reflect_ledger_laws.specs.Words.{Key, Word, Open, KeepAlive, Announce, Withdraw, key_of}
use Rattle.mn_reflect_world_laws.specs.Kept.{route_in}
use Rattle.mn_reflect_world_laws.specs.Now.{ReflectNow}
use Rattle.mn_reflect_world_laws.specs.Spelling.{word_bytes}
use Rattle.mn_reflect_telling.specs.Said.{IsOther, IsSaid}
use Rattle.mn_reflect.specs.Doing.{IsNext, IsFirst, IsSaying, taken, route_heard, word_heard}
use Rattle.mn_reflect_telling.proofs.Results.{on_ok}
use Rattle.mn_reflect.proofs.Words.{is_said, is_first, is_saying, IsSayingWord}

-- the routes of an UPDATE are those of the word
abbrev pub SaysWord : Network → Labels → SaysReflected → Word → Type 0
SaysWord t labels said (Announce offer) = IsSaying t said (key_of offer) (Some (route_in labels offer))
SaysWord t labels said (Withdraw key) = IsSaying t said key None
SaysWord t labels said _ = ⊥

says_so : (t : Network) (lawful : IsLawful t) (rs : List ℕ) (labels : Labels) (from : ℕ) (said : SaysReflected) (word : Word) →
    IsSayingWord t lawful rs labels from said word → SaysWord t labels said word
says_so t lawful rs labels from said (Announce offer) h = h
says_so t lawful rs labels from said (Withdraw key) h = h
says_so t lawful rs labels from said Open h = h
says_so t lawful rs labels from said KeepAlive h = h

module _ (now : ReflectNow) (lawful : IsLawful now.topology) (peer node : ℕ) (letter : Letter) (bytes : List ℕ)
    (first : first_from_to peer node now.mail.letters ≡ Some letter) (is : bytes ≡ letter.bytes) (labels : Labels) (word : Word)
    (next : IsNext labels now peer node word) where
  bytes_are : bytes ≡ word_bytes now.topology next.reflectors labels peer word
  bytes_are = is ∙ ap (λ (l : Letter). l.bytes) (same_Some letter _ (sym first ∙ next.letter))

  pub reads : IsSaid bytes
  reads = subst IsSaid (sym bytes_are) (is_said now.topology lawful next.reflectors labels peer word next.good)

  pub other_is : (other : BgpMessage) → IsOther other → IsBgp bytes other → IsFirst now.topology peer other word
  other_is other its spelled =
      is_first now.topology lawful next.reflectors labels peer word other next.good its (subst (λ bs. IsBgp bs other) bytes_are spelled)

  pub routes_are : (said : SaysReflected) → IsReflected bytes said → SaysWord now.topology labels said word
  routes_are said spelled =
      says_so now.topology lawful next.reflectors labels peer said word
      (is_saying now.topology lawful next.reflectors labels peer word said next.good (subst (λ bs. IsReflected bs said) bytes_are spelled))

pub some_saying : (t : Network) (labels : Labels) (said : SaysReflected) (word : Word) → SaysWord t labels said word →
    (key : Key) × (mention : Option Heard) × IsSaying t said key mention
some_saying t labels said (Announce offer) h = (key_of offer, Some (route_in labels offer), h)
some_saying t labels said (Withdraw key) h = (key, None, h)
some_saying t labels said Open h = absurd h
some_saying t labels said KeepAlive h = absurd h

pub saying_then : (labels : Labels) (peer node : ℕ) (now mid : ReflectNow) (said : SaysReflected) (word : Word) → mid ≡ taken peer node now →
    SaysWord now.topology labels said word → (key : Key) × (mention : Option Heard) × IsSaying mid.topology said key mention
saying_then labels peer node now mid said word m says =
    let some = some_saying now.topology labels said word says in
    (some.0, some.1, subst (λ (x : ReflectNow). IsSaying x.topology said some.0 some.1) (sym m) some.2)

pub hears_routes : {A E : Type 0} (labels : Labels) (peer node : ℕ) (now mid new : ReflectNow) (said : SaysReflected) (word : Word) (r : Result A E) →
    mid ≡ taken peer node now → SaysWord now.topology labels said word →
    ((key : Key) (mention : Option Heard) → IsSaying mid.topology said key mention → OnOk r (new ≡ route_heard node peer key mention mid)) →
    OnOk r (new ≡ word_heard labels peer node word now)
hears_routes labels peer node now mid new said (Announce offer) r m says h =
    on_ok r (λ e. e ∙ ap (route_heard node peer (key_of offer) (Some (route_in labels offer))) m)
    (h (key_of offer) (Some (route_in labels offer))
    (subst (λ (x : ReflectNow). IsSaying x.topology said (key_of offer) (Some (route_in labels offer))) (sym m) says))
hears_routes labels peer node now mid new said (Withdraw key) r m says h =
    on_ok r (λ e. e ∙ ap (route_heard node peer key None) m)
    (h key None (subst (λ (x : ReflectNow). IsSaying x.topology said key None) (sym m) says))
hears_routes labels peer node now mid new said Open r m says h = absurd says
hears_routes labels peer node now mid new said KeepAlive r m says h = absurd says
