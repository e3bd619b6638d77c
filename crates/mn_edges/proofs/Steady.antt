-- Peers with which a session is Established, one after another.
use Rattle.std.proofs.Common.{ℕ, ◌≡◌, ◌+◌, ◌<◌, Bool, true, false, List, [], ◌∷◌, ◌++◌, length, drop, sym, ◌∙◌, ap, Option}
use Rattle.std.proofs.Common.{append_assoc, append-nil, get_or, add-one}
use Rattle.std.proofs.Math.Seq.{drop-cons}
use Rattle.std.specs.Prelude.{if◌then◌else◌}
use Rattle.mn_base.specs.declared.numbers.NodeNo.{NodeNo}
use Rattle.mn_bgp_session.specs.declared.session.BgpSession.{BgpSession}
use Rattle.mn_edges.specs.Peers.{is_steady, peers_from}

pub steady_next : (ends : List (Option BgpSession)) (k : ℕ) (d : Option BgpSession) (xs new all : List NodeNo) → k < length ends
    → new ≡ xs ++ (if is_steady (get_or ends k d) then record { 0 = k } ∷ [] else [])
    → xs ++ peers_from k (drop k ends) ≡ all → new ++ peers_from (k + 1) (drop (k + 1) ends) ≡ all
steady_next ends k d xs new all h put was =
    ap (λ ys. ys ++ peers_from (k + 1) (drop (k + 1) ends)) put
    ∙ by (is_steady (get_or ends k d))
    ∙ ap (λ ys. xs ++ peers_from k ys) (sym (drop-cons ends k d h ∙ ap (λ n. get_or ends k d ∷ drop n ends) (sym (add-one k))))
    ∙ was
  where
    by : (b : Bool) → (xs ++ (if b then record { 0 = k } ∷ [] else [])) ++ peers_from (k + 1) (drop (k + 1) ends)
        ≡ xs ++ (if b then record { 0 = k } ∷ peers_from (k + 1) (drop (k + 1) ends) else peers_from (k + 1) (drop (k + 1) ends))
    by true = append_assoc xs (record { 0 = k } ∷ []) (peers_from (k + 1) (drop (k + 1) ends))
    by false = ap (λ ys. ys ++ peers_from (k + 1) (drop (k + 1) ends)) (append-nil xs)
