-- What a command does to parts and to the rest is what its accepted order does.
use Rattle.std.proofs.Common.{◌≡◌, ℕ, Bool, true, false, cond, ◌&&◌, eqb, [], take, Some, None, Option, refl, ap}
use Rattle.backplane.specs.declared.configuration.Configuration.{Configuration}
use Rattle.history.specs.Shelf.{Answer, Command, Host, Part, Rest, Shelf, State, unpowered, powered, Value, World}
use Rattle.history.specs.Cdb.{opcode, sent, long_length}
use Rattle.history.specs.Orders.{Order}
use Rattle.history.specs.Judgement.{Verdict, order_in}
use Rattle.history.specs.Replies.{reply}
use Rattle.history.specs.Steps.{replied, verdict}
use Rattle.history.specs.Log.{order_bytes}
use Rattle.history.proofs.Judged.{Judged, Ordered, attends, inquires, judged, misses, misses_inquiry, misses_sense, obeys, passes, refuses, rejects, shows_page, shows_sense, writes_nothing}

-- no order, and no accepted order's bytes; or an order, and its bytes are the accepted ones
pub data Effect (f : Configuration) (c : Command) (a : Answer) : Option Order → Type 0 where
  still : order_bytes c a ≡ [] → Effect f c a None
  acts : {o : Order} → order_bytes c a ≡ sent c → Ordered f (sent c) o → Effect f c a (Some o)

module _ (w : World) (c : Command) where
  another : (k : ℕ) → opcode c ≡ k → eqb k 0x3B ≡ false → cond (true && eqb (opcode c) 0x3B) (sent c) [] ≡ []
  another k e z = rw (e, z)

  no_bytes : (b : Bool) → long_length c ≡ 0 → cond b (sent c) [] ≡ []
  no_bytes true z = ap (λ (n : ℕ). take n c.payload) z
  no_bytes false z = refl

  effect_of : {b : Bool} {v : Verdict} → Judged w.configuration b c v → (h : Host) (ps : (p : Part) → Value p) (r : Rest) →
      Effect w.configuration c (reply w v h ps r) (order_in v)
  effect_of refuses h ps r = still refl
  effect_of misses h ps r = still refl
  effect_of (misses_inquiry k) h ps r = still (another 0x12 k refl)
  effect_of (misses_sense k) h ps r = still (another 0x03 k refl)
  effect_of (attends _) h ps r = still refl
  effect_of (passes k) h ps r = still (rw k)
  effect_of (writes_nothing z) h ps r = still (no_bytes _ z)
  effect_of rejects h ps r = still refl
  effect_of (inquires k) h ps r = still (another 0x12 k refl)
  effect_of (shows_sense k) h ps r = still (another 0x03 k refl)
  effect_of (shows_page k) h ps r = still (another 0x3C k refl)
  effect_of (obeys k o) h ps r = acts (rw k.op) o

pub effect : (w : World) (s : Shelf) (c : Command) → Effect w.configuration c (replied w s c) (order_in (verdict w s c))
effect w s c = effect_of w c (judged w.configuration (s.hosts c.host).attention c) (s.hosts c.host) s.parts s.rest

-- shelves that are equal place by place are equal
pub shelf_path : (s t : Shelf) → ((p : Part) → s.parts p ≡ t.parts p) → ((h : ℕ) → s.hosts h ≡ t.hosts h) → s.rest ≡ t.rest → s ≡ t
shelf_path s t a b e = λ i. record { parts = λ p. a p i; hosts = λ h. b h i; rest = e i }

-- the shelf of a powered state
abbrev shelf_in : Shelf → State → Shelf
shelf_in d unpowered = d
shelf_in d (powered s) = s

pub powered_one : (s t : Shelf) → powered s ≡ powered t → s ≡ t
powered_one s t e = ap (shelf_in s) e
