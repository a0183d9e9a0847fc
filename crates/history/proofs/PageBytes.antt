-- A byte of a page depends on the part that it belongs to and on nothing else that orders on parts move.
use Rattle.std.proofs.Common.{◌≡◌, ℕ, ◌+◌, ◌-◌, ◌*◌, ◌/◌, ◌<◌, ◌≤◌, Bool, true, false, cond, eqb, List, [], ◌∷◌, ◌++◌, length, get_or, take, Some, sym, refl, ap, ◌∙◌, subst, inl, inr, append_assoc, arith}
use Rattle.std.proofs.lemmas.List.{get_or-take, get_or_past, length-append, length-take}
use Rattle.std.proofs.lemmas.Bool.{cases_lt, eqb-true, lt-ltb, le-ltb}
use Rattle.std.specs.List.{flat_map}
use Rattle.backplane.specs.declared.configuration.Configuration.{Configuration}
use Rattle.enclosure.specs.Conditions.{fan_of, supply_of}
use Rattle.parts.specs.Laid.{fan_laid, supply_laid}
use Rattle.pages.specs.Pages.{status_page}
use Rattle.history.specs.Shelf.{Part, slot, supply, Rest, Value}
use Rattle.history.specs.Hosts.{part_on}
use Rattle.history.specs.Replies.{listed, page_bytes, slot_bytes, slot_page, slots_of, status_of}
use Rattle.history.proofs.Listed.{append_same, run_length, run_same}

-- the same test on two sides
cond_two : {A : Type 0} (R : A → A → Type 0) (b : Bool) (x x' y y' : A) → (b ≡ true → R x y) → (b ≡ false → R x' y') → R (cond b x x') (cond b y y')
cond_two R true x x' y y' p q = p refl
cond_two R false x x' y y' p q = q refl

abbrev Long : List ℕ → List ℕ → Type 0
Long xs ys = length xs ≡ length ys

abbrev At : ℕ → List ℕ → List ℕ → Type 0
At i xs ys = get_or xs i 0 ≡ get_or ys i 0

-- a page of six pieces, of which the second differs
parted : (a b c d e f : List ℕ) → a ++ b ++ c ++ d ++ e ++ f ≡ a ++ (b ++ (c ++ (d ++ (e ++ f))))
parted a b c d e f = simp append_assoc

six_long : (a b b' c d e f : List ℕ) → length b ≡ length b' → Long (a ++ b ++ c ++ d ++ e ++ f) (a ++ b' ++ c ++ d ++ e ++ f)
six_long a b b' c d e f l = simp length-append (rw l)

six_at : (a b b' c d e f : List ℕ) (m n i : ℕ) → length a ≡ m → length b ≡ n → length b' ≡ n → (m ≤ i → i < m + n → get_or b (i - m) 0 ≡ get_or b' (i - m) 0)
    → At i (a ++ b ++ c ++ d ++ e ++ f) (a ++ b' ++ c ++ d ++ e ++ f)
six_at a b b' c d e f m n i l k k' same =
    ap (λ (xs : List ℕ). get_or xs i 0) (parted a b c d e f)
    ∙ append_same a a _ _ m i l l (λ _. refl) (λ g.
    append_same b b' _ _ n (i - m) k k' (λ h. same g (omega arith)) (λ _. refl))
    ∙ sym (ap (λ (xs : List ℕ). get_or xs i 0) (parted a b' c d e f))

module _ (f : Configuration) (ps qs : (p : Part) → Value p) (r : Rest) where
  abbrev SameAt : ℕ → ℕ → Type 0
  SameAt b k = (p : Part) → part_on f b k ≡ Some p → ps p ≡ qs p

  slots_length : (xs : (p : Part) → Value p) → length (flat_map slot_bytes (slots_of f xs)) ≡ 4 * f.counts.slots
  slots_length xs = run_length 4 slot_bytes (λ x. refl) (λ k. xs (slot k)) f.counts.slots

  fans_length : length (flat_map fan_laid (listed (λ k. fan_of (r.inputs.fan k)) f.counts.fans)) ≡ f.counts.fans
  fans_length = omega (arith, run_length 1 fan_laid (λ x. refl) (λ k. fan_of (r.inputs.fan k)) f.counts.fans)

  supplies_length : (xs : (p : Part) → Value p) → length (flat_map supply_laid (listed (λ k. supply_of (r.inputs.supply k) (xs (supply k))) f.counts.supplies)) ≡ f.counts.supplies
  supplies_length xs = omega (arith, run_length 1 supply_laid (λ x. refl) (λ k. supply_of (r.inputs.supply k) (xs (supply k))) f.counts.supplies)

  slots_byte : (i : ℕ) → SameAt 4 i → get_or (slot_page (slots_of f ps)) i 0 ≡ get_or (slot_page (slots_of f qs)) i 0
  slots_byte i e =
      append_same _ _ (0 ∷ []) (0 ∷ []) (4 * f.counts.slots) i (slots_length ps) (slots_length qs)
      (λ l. run_same 4 slot_bytes (λ x. refl) (λ k. ps (slot k)) (λ k. qs (slot k)) f.counts.slots i
      (λ k b g h. let z : i / 4 ≡ k = omega arith in e (slot k) (rw (lt-ltb i (4 * f.counts.slots) l, z))))
      (λ _. refl)

  status_byte : (i : ℕ) → SameAt 1 i → get_or (status_page (status_of f ps r)) i 0 ≡ get_or (status_page (status_of f qs r)) i 0
  status_byte i e =
      six_at _ _ _ _ _ _ _ f.counts.fans f.counts.supplies i fans_length (supplies_length ps) (supplies_length qs)
      (λ g l. run_same 1 supply_laid (λ x. refl) (λ k. supply_of (r.inputs.supply k) (ps (supply k))) (λ k. supply_of (r.inputs.supply k) (qs (supply k))) f.counts.supplies (i - f.counts.fans)
      (λ k b m h. let z : i - f.counts.fans ≡ k = omega arith in
      ap (λ (x : Bool). supply_of (r.inputs.supply k) x) (e (supply k) (rw (le-ltb i f.counts.fans g, lt-ltb i (f.counts.fans + f.counts.supplies) l, z)))))

  -- whatever the parts, a page has one length
  pub page_length : (b : ℕ) → length (page_bytes f b ps r) ≡ length (page_bytes f b qs r)
  page_length b =
      cond_two Long (eqb b 0) _ _ _ _ (λ _. refl) λ _.
      cond_two Long (eqb b 1) _ _ _ _ (λ _. six_long _ _ _ _ _ _ _ (supplies_length ps ∙ sym (supplies_length qs))) λ _.
      cond_two Long (eqb b 3) _ _ _ _ (λ _. refl) λ _.
      cond_two Long (eqb b 4) _ _ _ _ (λ _. simp length-append (rw (slots_length ps, slots_length qs))) λ _. refl

  page_byte : (b i : ℕ) → SameAt b i → get_or (page_bytes f b ps r) i 0 ≡ get_or (page_bytes f b qs r) i 0
  page_byte b i e =
      cond_two (At i) (eqb b 0) _ _ _ _ (λ _. refl) λ _.
      cond_two (At i) (eqb b 1) _ _ _ _ (λ z. status_byte i (subst (λ (x : ℕ). SameAt x i) (eqb-true b 1 z) e)) λ _.
      cond_two (At i) (eqb b 3) _ _ _ _ (λ _. refl) λ _.
      cond_two (At i) (eqb b 4) _ _ _ _ (λ z. slots_byte i (subst (λ (x : ℕ). SameAt x i) (eqb-true b 4 z) e)) λ _. refl

  -- a byte of a page that is cut at a length is the same where the part that it belongs to is
  pub cut_byte : (b n i : ℕ) → SameAt b i → get_or (take n (page_bytes f b ps r)) i 0 ≡ get_or (take n (page_bytes f b qs r)) i 0
  cut_byte b n i e = elim (cases_lt i n) [
    | inl l ↦ get_or-take n (page_bytes f b ps r) i 0 l ∙ page_byte b i e ∙ sym (get_or-take n (page_bytes f b qs r) i 0 l)
    | inr g ↦ past (page_bytes f b ps r) g ∙ sym (past (page_bytes f b qs r) g)
  ]
    where
      past : (xs : List ℕ) → n ≤ i → get_or (take n xs) i 0 ≡ 0
      past xs g = get_or_past (take n xs) i 0 (simp length-take (omega arith))
