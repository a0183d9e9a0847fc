-- Bytes laid over a page: one after another is both at once.
use Rattle.std.proofs.Common.{◌≡◌, ℕ, zero, suc, ◌+◌, ◌*◌, ◌<◌, ◌≤◌, List, [], ◌∷◌, ◌++◌, length, get_or, take, drop, sym, ap, ◌∙◌, append_assoc, add_assoc, mul-le-mul_right, suc-mul, add-mul, one-mul, zero-mul, arith}
use Rattle.std.proofs.lemmas.List.{length-append, length-take-le, take_at, drop_at, drop-drop, take_more, flat_map_more}
use Rattle.std.specs.List.{flat_map}
use Rattle.part_runs.specs.Runs.{over}

front : (p : List ℕ) (at : ℕ) (xs : List ℕ) → at + length xs ≤ length p → length (take at p ++ xs) ≡ at + length xs
front p at xs h =
    let b : at ≤ length p = omega arith in
    let t = length-take-le at p b in
    let a = length-append (take at p) xs in omega arith

pub over_more : (p : List ℕ) (at : ℕ) (xs ys : List ℕ) → at + length xs ≤ length p → over (over p at xs) (at + length xs) ys ≡ over p at (xs ++ ys)
over_more p at xs ys h =
    let D = drop (at + length xs) p in
    let e : drop (at + length xs + length ys) p ≡ drop (at + length (xs ++ ys)) p = simp (length-append, add_assoc) in
    let assoc = append_assoc (take at p) xs D in
    let t = take_at (take at p ++ xs) D (at + length xs) (front p at xs h) in
    let d = drop_at (take at p ++ xs) D (at + length xs) (front p at xs h) in
    let f = drop-drop (length ys) (at + length xs) (over p at xs) in
    let g = drop-drop (length ys) (at + length xs) p in
    let u = append_assoc (take at p) xs (ys ++ drop (at + length (xs ++ ys)) p) in
    let v = append_assoc xs ys (drop (at + length (xs ++ ys)) p) in
    cc

-- room for part i of n parts of w bytes
pub room : (at i n w m : ℕ) → i < n → at + n * w ≤ m → at + i * w + w ≤ m
room at i n w m l h =
    let s : i + 1 ≤ n = omega arith in
    let k = mul-le-mul_right w s in
    let e = add-mul i 1 w in
    let o = one-mul w in omega arith

-- one part more of a run
pub joined_step : {X : Type 0} (f : X → List ℕ) (xs : List X) (i : ℕ) (x : X) → i < length xs → x ≡ get_or xs i x → flat_map f (take (i + 1) xs) ≡ flat_map f (take i xs) ++ f x
joined_step f xs i x l e =
    let t = take_more xs i x l in
    let j = flat_map_more f [] (take i xs) x in cc

pub joined_length : {X : Type 0} (f : X → List ℕ) (w : ℕ) → ((x : X) → length (f x) ≡ w) → (xs : List X) → length (flat_map f xs) ≡ length xs * w
joined_length f w h [] = sym (zero-mul w)
joined_length f w h (x ∷ xs) =
    let a = length-append (f x) (flat_map f xs) in
    let r = joined_length f w h xs in
    let s = suc-mul (length xs) w in
    let k = h x in omega arith

-- one turn of the loop that lays a run
pub turn : {X : Type 0} (f : X → List ℕ) (w : ℕ) → ((x : X) → length (f x) ≡ w) → (p q r : List ℕ) (at place : ℕ) (xs : List X) (i : ℕ) (x : X)
    → i < length xs → x ≡ get_or xs i x → at + length xs * w ≤ length p → place ≡ at + i * w → q ≡ over p at (flat_map f (take i xs)) → r ≡ over q place (f x)
    → r ≡ over p at (flat_map f (take (i + 1) xs))
turn f w h p q r at place xs i x l e fit pl inv new =
    let b : i ≤ length xs = omega arith in
    let n = joined_length f w h (take i xs) in
    let t = length-take-le i xs b in
    let c : length (flat_map f (take i xs)) ≡ i * w = n ∙ ap (λ k. k * w) t in
    let g = room at i (length xs) w (length p) l fit in
    let s = joined_step f xs i x l e in
    let m = over_more p at (flat_map f (take i xs)) (f x) (omega arith) in
    let pl2 : place ≡ at + length (flat_map f (take i xs)) = omega arith in
    cc

-- part k of a run stands at k × w
pub joined_at : {X : Type 0} (f : X → List ℕ) (w : ℕ) → ((x : X) → length (f x) ≡ w) → (xs : List X) (k : ℕ) (x : X) (rest : List ℕ)
    → k < length xs → x ≡ get_or xs k x → take w (drop (k * w) (flat_map f xs ++ rest)) ≡ f x
joined_at f w h [] k x rest l e = absurd (omega arith)
joined_at f w h (y ∷ xs) zero x rest l e =
    let z = zero-mul w in
    let a = append_assoc (f y) (flat_map f xs) rest in
    let t = take_at (f y) (flat_map f xs ++ rest) w (h y) in
    simp (zero-mul, append_assoc) (t ∙ ap f (sym e))
joined_at f w h (y ∷ xs) (suc k) x rest l e =
    let s : suc k * w ≡ w + k * w = omega (arith, suc-mul k w) in
    let a = append_assoc (f y) (flat_map f xs) rest in
    let d = drop_at (f y) (flat_map f xs ++ rest) w (h y) in
    let dd = drop-drop (k * w) w (f y ++ (flat_map f xs ++ rest)) in
    let r = joined_at f w h xs k x rest (omega arith) e in
    cc

pub over_at : {X : Type 0} (f : X → List ℕ) (w : ℕ) → ((x : X) → length (f x) ≡ w) → (old p : List ℕ) (at : ℕ) (xs : List X) (k : ℕ) (x : X)
    → at + length xs * w ≤ length old → p ≡ over old at (flat_map f xs) → k < length xs → x ≡ get_or xs k x → take w (drop (at + k * w) p) ≡ f x
over_at f w h old p at xs k x fit e l is =
    let b : at ≤ length old = omega arith in
    let rest = drop (at + length (flat_map f xs)) old in
    let d = drop_at (take at old) (flat_map f xs ++ rest) at (length-take-le at old b) in
    let dd = drop-drop (k * w) at p in
    let r = joined_at f w h xs k x rest l is in
    cc
