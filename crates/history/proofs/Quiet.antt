-- What a command does not name it leaves alone.
use Rattle.std.proofs.Common.{◌≡◌, ℕ, ◌+◌, ◌*◌, ◌<◌, Bool, true, false, not, ◌&&◌, ◌||◌, eqb, ltb, List, length, get_or, take, drop, refl, ap, ◌∙◌, inl, inr, arith}
use Rattle.std.proofs.lemmas.Bool.{both_ways, cases_lt, cond-false, eq-eqb, eqb-false, eqb-true, lt-ltb}
use Rattle.backplane.specs.declared.configuration.Configuration.{Configuration}
use Rattle.history.specs.Shelf.{Command, Part, slot, fan, supply, Rest, Value}
use Rattle.history.specs.Cdb.{mode, opcode, unit}
use Rattle.history.specs.Orders.{Order, act, act_rest, acted, acted_rest, flagged, triple_in}
use Rattle.history.specs.Judgement.{Verdict, order_in}
use Rattle.history.specs.Hosts.{bytes_name, is_global, names, second_names, writes}
use Rattle.history.proofs.Judged.{Judged, Ordered, Writes, attends, fifteen, fourteen, inquires, misses, misses_inquiry, misses_sense, obeys, passes, refuses, rejects, shows_page, shows_sense, ten, thirteen, twelve, writes_nothing}
use Rattle.history.proofs.Rows.{none_past, triple_within}

or_left : (a b : Bool) → (a || b) ≡ false → a ≡ false
or_left true b e = e
or_left false b e = refl

or_right : (a b : Bool) → (a || b) ≡ false → b ≡ false
or_right true b e = absurd (both_ways true e refl)
or_right false b e = e

-- a part that is not named by the second byte is another
second_off : (sort count n : ℕ) (bs : List ℕ) → get_or bs 0 0 ≡ sort → 2 < length bs → get_or bs 1 0 < count → second_names sort count n bs ≡ false → eqb n (get_or bs 1 0) ≡ false
second_off sort count n bs k l m e = go (eqb n (get_or bs 1 0)) refl
  where
    go : (b : Bool) → eqb n (get_or bs 1 0) ≡ b → b ≡ false
    go false z = refl
    go true z =
        let q = eqb-true n (get_or bs 1 0) z in
        let named : second_names sort count n bs ≡ true = rw (eq-eqb (get_or bs 0 0) sort k, lt-ltb 1 (length bs) (omega arith), lt-ltb n count (omega arith), z) in
        absurd (both_ways _ e named)

ten_quiet : (f : Configuration) (bs : List ℕ) (n : ℕ) → get_or bs 0 0 ≡ 0x10 → 3 * f.counts.slots < length bs → bytes_name f bs (slot n) ≡ false
    → flagged (triple_in (take (3 * f.counts.slots) (drop 1 bs)) n) ≡ false
ten_quiet f bs n k m e = elim (cases_lt n f.counts.slots) [
  | inl l ↦ ap flagged (triple_within f.counts.slots (drop 1 bs) n l) ∙ inside l
  | inr g ↦ none_past f.counts.slots (drop 1 bs) n g
]
  where
    inside : n < f.counts.slots → flagged (triple_in (drop 1 bs) n) ≡ false
    inside l =
        let z = or_left (eqb (get_or bs 0 0) 0x10 && (ltb n f.counts.slots && (ltb (3 * n + 3) (length bs) && flagged (triple_in (drop 1 bs) n)))) (second_names 0x12 f.counts.slots n bs) e in
        rw (eq-eqb (get_or bs 0 0) 0x10 k, lt-ltb n f.counts.slots l, lt-ltb (3 * n + 3) (length bs) (omega arith)) at z

act_quiet : {f : Configuration} {bs : List ℕ} {o : Order} → Ordered f bs o → (p : Part) (v : Value p) → bytes_name f bs p ≡ false → act o p v ≡ v
act_quiet {f} {bs} (ten k m _) (slot n) v e = cond-false (flagged (triple_in (take (3 * f.counts.slots) (drop 1 bs)) n)) _ _ (ten_quiet f bs n k m e)
act_quiet (ten k _ _) (fan n) v e = refl
act_quiet (ten k _ _) (supply n) v e = refl
act_quiet {f} {bs} (twelve k l m _) (slot n) v e = cond-false (eqb n (get_or bs 1 0)) _ _ (second_off 0x12 f.counts.slots n bs k l m (or_right _ _ e))
act_quiet (twelve k l _ _) (fan n) v e = refl
act_quiet (twelve k l _ _) (supply n) v e = refl
act_quiet (thirteen k l _ _) (slot n) v e = refl
act_quiet {f} {bs} (thirteen k l m _) (fan n) v e = cond-false (eqb n (get_or bs 1 0)) _ _ (second_off 0x13 f.counts.fans n bs k l m e)
act_quiet (thirteen k l _ _) (supply n) v e = refl
act_quiet (fourteen k l _ _) (slot n) v e = refl
act_quiet (fourteen k l _ _) (fan n) v e = refl
act_quiet {f} {bs} (fourteen k l m _) (supply n) v e = cond-false (eqb n (get_or bs 1 0)) _ _ (second_off 0x14 f.counts.supplies n bs k l m e)
act_quiet (fifteen k) p v e = refl

-- a WRITE BUFFER that came through is one by its form
ten_bytes : (a b : Bool) → (a || (false || not b)) ≡ false → b ≡ true
ten_bytes true b e = absurd (both_ways true e refl)
ten_bytes false true e = refl
ten_bytes false false e = absurd (both_ways true e refl)

pub writes_so : (c : Command) → Writes c → writes c ≡ true
writes_so c k =
    let i = k.form in
    let z : eqb (length c.cdb) 10 ≡ true = ten_bytes (ltb (length c.cdb) 2) (eqb (length c.cdb) 10) (rw k.op at i) in
    rw (eq-eqb (opcode c) 0x3B k.op, z, eq-eqb (unit c) 0 k.at, eq-eqb (mode c) 1 k.way)

pub quiet : {f : Configuration} {b : Bool} {c : Command} {v : Verdict} → Judged f b c v → (p : Part) (x : Value p) → names f c p ≡ false → acted (order_in v) p x ≡ x
quiet refuses p x e = refl
quiet misses p x e = refl
quiet (misses_inquiry _) p x e = refl
quiet (misses_sense _) p x e = refl
quiet (attends _) p x e = refl
quiet (passes _) p x e = refl
quiet (writes_nothing _) p x e = refl
quiet rejects p x e = refl
quiet (inquires _) p x e = refl
quiet (shows_sense _) p x e = refl
quiet (shows_page _) p x e = refl
quiet {c = c} (obeys k o) p x e = act_quiet o p x (rw (writes_so c k) at e)

act_rest_kept : {f : Configuration} {bs : List ℕ} {o : Order} → Ordered f bs o → (r : Rest) → eqb (get_or bs 0 0) 0x15 ≡ false → act_rest f o r ≡ r
act_rest_kept (ten k _ _) r e = refl
act_rest_kept (twelve k _ _ _) r e = refl
act_rest_kept (thirteen k _ _ _) r e = refl
act_rest_kept (fourteen k _ _ _) r e = refl
act_rest_kept (fifteen k) r e = absurd (eqb-false _ _ e k)

pub rest_kept : {f : Configuration} {b : Bool} {c : Command} {v : Verdict} → Judged f b c v → (r : Rest) → is_global c ≡ false → acted_rest f (order_in v) r ≡ r
rest_kept refuses r e = refl
rest_kept misses r e = refl
rest_kept (misses_inquiry _) r e = refl
rest_kept (misses_sense _) r e = refl
rest_kept (attends _) r e = refl
rest_kept (passes _) r e = refl
rest_kept (writes_nothing _) r e = refl
rest_kept rejects r e = refl
rest_kept (inquires _) r e = refl
rest_kept (shows_sense _) r e = refl
rest_kept (shows_page _) r e = refl
rest_kept {c = c} (obeys k o) r e = act_rest_kept o r (rw (writes_so c k) at e)
