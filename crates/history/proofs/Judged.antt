-- What each verdict tells of the command that it came to. Laws about commands go by these cases.
use Rattle.std.proofs.Common.{◌≡◌, ℕ, ◌+◌, ◌*◌, ◌%◌, ◌<◌, Bool, true, false, ◌&&◌, ◌||◌, eqb, ltb, List, length, get_or, take, drop, IfSome, Some, None, Option, refl, arith}
use Rattle.std.proofs.lemmas.Bool.{and_parts, cond_both, eqb-true, ltb-false, ltb-true}
use Rattle.answers.specs.declared.refusal.Refusal.{Refusal}
use Rattle.answers.specs.declared.sense.Sense.{Sense}
use Rattle.backplane.specs.declared.configuration.Configuration.{Configuration}
use Rattle.history.specs.Shelf.{Command}
use Rattle.history.specs.Cdb.{buffer_id, ill_formed, long_length, mode, opcode, sent, short_length, unit}
use Rattle.history.specs.Orders.{Operation, Order, triples, operate, speed, switch, global, operating, operation_of, order_of, sound_below}
use Rattle.history.specs.Judgement.{Verdict, refuse, miss, miss_inquiry, miss_sense, attend, pass, reject, inquire, show_sense, show_page, obey, is_page, judge, missed, obeying, opcode_verdict, read_verdict, unit_verdict, write_verdict}

-- what an order tells of the bytes that it was read from
pub data Ordered (f : Configuration) (bs : List ℕ) : Order → Type 0 where
  ten : get_or bs 0 0 ≡ 0x10 → 3 * f.counts.slots < length bs → sound_below (drop 1 bs) f.counts.slots ≡ true → Ordered f bs (triples (take (3 * f.counts.slots) (drop 1 bs)))
  twelve : {o : Operation} → get_or bs 0 0 ≡ 0x12 → 2 < length bs → get_or bs 1 0 < f.counts.slots → operation_of (get_or bs 2 0 % 8) ≡ Some o → Ordered f bs (operate (get_or bs 1 0) o)
  thirteen : get_or bs 0 0 ≡ 0x13 → 2 < length bs → get_or bs 1 0 < f.counts.fans → get_or bs 2 0 < 5 → Ordered f bs (speed (get_or bs 1 0) (get_or bs 2 0))
  fourteen : get_or bs 0 0 ≡ 0x14 → 2 < length bs → get_or bs 1 0 < f.counts.supplies → get_or bs 2 0 < 2 → Ordered f bs (switch (get_or bs 1 0) (eqb (get_or bs 2 0) 1))
  fifteen : get_or bs 0 0 ≡ 0x15 → Ordered f bs (global (get_or bs 1 0) (get_or bs 2 0) (get_or bs 3 0))

module _ (f : Configuration) (bs : List ℕ) where
  abbrev Told : Option Order → Type 0
  Told o = IfSome o (Ordered f bs)

  operating_told : (o : Option Operation) → operation_of (get_or bs 2 0 % 8) ≡ o → get_or bs 0 0 ≡ 0x12 → 2 < length bs → get_or bs 1 0 < f.counts.slots → Told (operating (get_or bs 1 0) o)
  operating_told (Some o) e k l m = twelve k l m e
  operating_told None e k l m = tt

  pub ordered : IfSome (order_of f bs) (Ordered f bs)
  ordered =
      cond_both (eqb (get_or bs 0 0) 0x10) _ _ Told
      (λ k. cond_both (ltb (length bs) (3 * f.counts.slots + 1)) _ _ Told (λ _. tt) λ l.
      cond_both (sound_below (drop 1 bs) f.counts.slots) _ _ Told (λ z. ten (eqb-true _ _ k) (omega (arith, ltb-false _ _ l)) z) (λ _. tt)) λ _.
      cond_both (eqb (get_or bs 0 0) 0x12) _ _ Told
      (λ k. cond_both (ltb (length bs) 3) _ _ Told (λ _. tt) λ l.
      cond_both (ltb (get_or bs 1 0) f.counts.slots) _ _ Told
      (λ m. operating_told (operation_of (get_or bs 2 0 % 8)) refl (eqb-true _ _ k) (omega (arith, ltb-false _ _ l)) (ltb-true _ _ m)) (λ _. tt)) λ _.
      cond_both (eqb (get_or bs 0 0) 0x13) _ _ Told
      (λ k. cond_both (ltb (length bs) 3) _ _ Told (λ _. tt) λ l.
      cond_both (ltb (get_or bs 1 0) f.counts.fans && ltb (get_or bs 2 0) 5) _ _ Told
      (λ m. thirteen (eqb-true _ _ k) (omega (arith, ltb-false _ _ l)) (ltb-true _ _ (and_parts _ _ m).0) (ltb-true _ _ (and_parts _ _ m).1)) (λ _. tt)) λ _.
      cond_both (eqb (get_or bs 0 0) 0x14) _ _ Told
      (λ k. cond_both (ltb (length bs) 3) _ _ Told (λ _. tt) λ l.
      cond_both (ltb (get_or bs 1 0) f.counts.supplies && ltb (get_or bs 2 0) 2) _ _ Told
      (λ m. fourteen (eqb-true _ _ k) (omega (arith, ltb-false _ _ l)) (ltb-true _ _ (and_parts _ _ m).0) (ltb-true _ _ (and_parts _ _ m).1)) (λ _. tt)) λ _.
      cond_both (eqb (get_or bs 0 0) 0x15) _ _ Told
      (λ k. cond_both (ltb (length bs) 4) _ _ Told (λ _. tt) λ _. fifteen (eqb-true _ _ k)) λ _. tt

-- a WRITE BUFFER that came through to logical unit 0 in mode 1
pub record Writes (c : Command) : Type 0 where
  pub op : opcode c ≡ 0x3B
  pub form : ill_formed c ≡ false
  pub at : unit c ≡ 0
  pub way : mode c ≡ 1

pub data Judged (f : Configuration) (b : Bool) (c : Command) : Verdict → Type 0 where
  refuses : {n : Refusal} → Judged f b c (refuse n)
  misses : Judged f b c miss
  misses_inquiry : opcode c ≡ 0x12 → Judged f b c (miss_inquiry (short_length c))
  misses_sense : opcode c ≡ 0x03 → Judged f b c (miss_sense (short_length c))
  attends : b ≡ true → Judged f b c attend
  passes : eqb (opcode c) 0x3B ≡ false → Judged f b c pass
  writes_nothing : long_length c ≡ 0 → Judged f b c pass
  rejects : {s : Sense} → Judged f b c (reject s)
  inquires : opcode c ≡ 0x12 → Judged f b c (inquire (short_length c))
  shows_sense : opcode c ≡ 0x03 → Judged f b c (show_sense (short_length c))
  shows_page : opcode c ≡ 0x3C → Judged f b c (show_page (buffer_id c) (long_length c))
  obeys : {o : Order} → Writes c → Ordered f (sent c) o → Judged f b c (obey o)

module _ (f : Configuration) (b : Bool) (c : Command) where
  obeying_judged : Writes c → (o : Option Order) → IfSome o (Ordered f (sent c)) → Judged f b c (obeying o)
  obeying_judged k (Some o) e = obeys k e
  obeying_judged k None e = rejects

  write_judged : opcode c ≡ 0x3B → ill_formed c ≡ false → unit c ≡ 0 → Judged f b c (write_verdict f c)
  write_judged k i u =
      cond_both (eqb (mode c) 1) _ _ (Judged f b c)
      (λ m. cond_both (eqb (long_length c) 0) _ _ (Judged f b c) (λ z. writes_nothing (eqb-true _ _ z))
      (λ _. obeying_judged (record { op = k; form = i; at = u; way = eqb-true _ _ m }) (order_of f (sent c)) (ordered f (sent c))))
      (λ _. rejects)

  read_judged : opcode c ≡ 0x3C → Judged f b c (read_verdict c)
  read_judged k = cond_both (eqb (mode c) 1 && is_page (buffer_id c)) _ _ (Judged f b c) (λ _. shows_page k) (λ _. rejects)

  passes_by : (eqb (opcode c) 0x00 || eqb (opcode c) 0x1D) ≡ true → eqb (opcode c) 0x3B ≡ false
  passes_by e = go (opcode c) e
    where
      go : (n : ℕ) → (eqb n 0x00 || eqb n 0x1D) ≡ true → eqb n 0x3B ≡ false
      go n h = grind arith

  opcode_judged : ill_formed c ≡ false → unit c ≡ 0 → Judged f b c (opcode_verdict f c)
  opcode_judged i u =
      cond_both (eqb (opcode c) 0x00 || eqb (opcode c) 0x1D) _ _ (Judged f b c) (λ z. passes (passes_by z)) λ _.
      cond_both (eqb (opcode c) 0x3B) _ _ (Judged f b c) (λ z. write_judged (eqb-true _ _ z) i u) λ _.
      cond_both (eqb (opcode c) 0x3C) _ _ (Judged f b c) (λ z. read_judged (eqb-true _ _ z)) λ _. rejects

  unit_judged : ill_formed c ≡ false → unit c ≡ 0 → Judged f b c (unit_verdict f b c)
  unit_judged i u =
      cond_both (eqb (opcode c) 0x12) _ _ (Judged f b c) (λ z. inquires (eqb-true _ _ z)) λ _.
      cond_both (eqb (opcode c) 0x03) _ _ (Judged f b c) (λ z. shows_sense (eqb-true _ _ z)) λ _.
      cond_both b _ _ (Judged f b c) (λ z. attends z) λ _. opcode_judged i u

  missed_judged : Judged f b c (missed c)
  missed_judged =
      cond_both (eqb (opcode c) 0x12) _ _ (Judged f b c) (λ z. misses_inquiry (eqb-true _ _ z)) λ _.
      cond_both (eqb (opcode c) 0x03) _ _ (Judged f b c) (λ z. misses_sense (eqb-true _ _ z)) λ _. misses

  pub judged : Judged f b c (judge f b c)
  judged =
      cond_both (ltb 15 c.host) _ _ (Judged f b c) (λ _. refuses) λ _.
      cond_both (ill_formed c) _ _ (Judged f b c) (λ _. refuses) λ i.
      cond_both (eqb (opcode c) 0x3B && ltb (length c.payload) (long_length c)) _ _ (Judged f b c) (λ _. refuses) λ _.
      cond_both (ltb c.room 64) _ _ (Judged f b c) (λ _. refuses) λ _.
      cond_both (eqb (unit c) 0) _ _ (Judged f b c) (λ u. unit_judged i (eqb-true _ _ u)) (λ _. missed_judged)
