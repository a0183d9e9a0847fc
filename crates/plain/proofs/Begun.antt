-- What a plain backplane means as it is made.
use Rattle.std.proofs.Common.{◌≡◌, ℕ, ◌+◌, Bool, true, false, cond, eqb, ltb, get_or, replicate, refl, ap, ◌∙◌}
use Rattle.backplane.specs.Configured.{asked, kept}
use Rattle.backplane.specs.Meaning.{condition_of, no_inputs, one}
use Rattle.backplane.specs.Same.{same_inputs, same_value}
use Rattle.backplane.specs.declared.configuration.Configuration.{Configuration}
use Rattle.backplane.specs.declared.configuration.Fittings.{Fittings}
use Rattle.backplane.specs.declared.places.Output.{Output}
use Rattle.backplane.specs.declared.places.Output.TheVariants.{Lamp, Connection, Speed, Supply, Alarm, Lock}
use Rattle.backplane.proofs.Kept.{filled, kept_configured, unset}
use Rattle.plain.specs.Frame.{fans_at, flags_at, inputs_in, supplies_at, temperatures_at}
use Rattle.plain.specs.Held.{Blank, dark, made_with, outputs_of, value_of}
use Rattle.plain.specs.declared.tables.SlotOutputs.{SlotOutputs}
use Rattle.plain.specs.declared.tables.Tables.{Tables}

-- a byte that is 0 gives the same as no byte
none_there : {A : Type 0} (b : Bool) (f : ℕ → A) (i : ℕ) → cond b (f (get_or (replicate 83 0) i 0)) (f 0) ≡ f 0
none_there b f i = unset b _ (f 0) (ap f (filled 83 0 i))

empty_inputs : (c : Configuration) → inputs_in c (replicate 83 0) ≡ no_inputs
empty_inputs c =
    let n = c.counts in
    same_inputs (inputs_in c (replicate 83 0)) no_inputs
    (λ k. none_there (ltb k n.slots) (λ b. eqb b 1) k)
    (λ k. none_there (ltb k n.fans) condition_of (fans_at c + k))
    (λ k. none_there (ltb k n.supplies) condition_of (supplies_at c + k))
    (λ k. none_there (ltb k n.sensors) (λ b. b) (temperatures_at c + k))
    (λ k. none_there (ltb k (n.sensors + n.thermostats)) (λ b. eqb b 1) (flags_at c + k))

blank_outputs : (t : Tables) → Blank t → (o : Output) → outputs_of t o ≡ 0
blank_outputs t b (Lamp k) = ap (λ l. (get_or l k dark).lamp) b.slots ∙ ap (λ (s : SlotOutputs). s.lamp) (filled 14 dark k)
blank_outputs t b (Connection k) = ap (λ l. one (get_or l k dark).connected) b.slots ∙ ap (λ (s : SlotOutputs). one s.connected) (filled 14 dark k)
blank_outputs t b (Speed k) = ap (λ l. get_or l k 0) b.speeds ∙ filled 16 0 k
blank_outputs t b (Supply k) = ap (λ l. one (get_or l k false)) b.supplies ∙ ap one (filled 8 false k)
blank_outputs t b Alarm = ap one b.alarm
blank_outputs t b Lock = ap one b.lock

pub made_value : (c : Configuration) (t : Tables) (f : Fittings) → c ≡ asked f → Blank t → value_of c t ≡ made_with (asked f)
made_value c t f is b =
    let k : kept c true ≡ asked f = ap (λ x. kept x true) is ∙ kept_configured f.counts f.lock f.alarm f.ids.now true in
    same_value (value_of c t) (made_with (asked f)) k (ap (inputs_in (kept c true)) b.frame ∙ empty_inputs (kept c true)) (blank_outputs t b) refl
