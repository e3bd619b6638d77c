-- A flood stays sound over what is done.
use Rattle.std.proofs.Common.{ℕ, IfOk, Result, Ok, Err, ◌≡◌, ◌+◌, ◌<◌, ◌≤◌, Bool, Some, length, arith, sym, subst}
use Rattle.mn_base.specs.Limits.{most_steps}
use Rattle.mn_wiring.specs.Wiring.{Wiring}
use Rattle.mn_wiring.specs.declared.links.Dir.{Dir}
use Rattle.mn_flood_laws.specs.Flood.{FloodWorld, Sent, changed, heard, first_on}
use Rattle.mn_flood_laws.proofs.Changing.{changed_keeps}
use Rattle.mn_flood_laws.proofs.Hearing.{heard_keeps}
use Rattle.mn_flood.specs.Links.{IsWired}
use Rattle.mn_flood.specs.Floods.{IsSound}
use Rattle.mn_flood.proofs.Worlds.{own_changed, own_heard}

module _ (wiring : Wiring) (world : FloodWorld) (done made : ℕ) (wired : IsWired wiring) (sound : IsSound wiring world done made) (few : done ≤ most_steps)
    (l : ℕ) (within : l < length wiring.ends) where
  pub sound_changed : (up : Bool) (w : Wiring) (new : FloodWorld) (sent : ℕ) → w ≡ wiring → new ≡ changed wiring world l up → sent ≤ made + 2560 →
      IsSound w new (done + 1) sent
  sound_changed up w new sent e f g = subst (λ v. IsSound v new (done + 1) sent) (sym e) (subst (λ n. IsSound wiring n (done + 1) sent) (sym f) (record {
    flood = changed_keeps wiring wired.joins wired.differ world sound.flood l within up;
    own = λ node h. omega (arith, own_changed wiring wired.joins wired.differ world sound.flood l within up node, sound.own node h);
    few = omega (arith, few);
    sent = omega (arith, g, sound.sent);
  }))

  pub sound_heard : (dir : Dir) (first : Sent) (w : Wiring) (new : FloodWorld) (sent : ℕ) → first_on l dir world.flying ≡ Some first → w ≡ wiring →
      new ≡ heard wiring world l dir → sent ≤ made + 1024 →
      IsSound w new (done + 1) sent
  sound_heard dir first w new sent q e f g = subst (λ v. IsSound v new (done + 1) sent) (sym e) (subst (λ n. IsSound wiring n (done + 1) sent) (sym f) (record {
    flood = heard_keeps wiring wired.joins wired.differ world sound.flood l within dir;
    own = λ node h. omega (arith, own_heard wiring wired.joins wired.differ world sound.flood l within dir first q node h, sound.own node h);
    few = omega (arith, few);
    sent = omega (arith, g, sound.sent);
  }))

-- what holds of an answer's value, if it has one
pub if_ok_so : {T E : Type 0} {P Q : T → Type 0} (r : Result T E) → ((x : T) → P x → Q x) → IfOk r P → IfOk r Q
if_ok_so (Ok x) f h = f x h
if_ok_so (Err e) f h = tt
