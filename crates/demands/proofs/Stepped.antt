-- One call is one step of the rules, on every good table, reached or not; and so is what it does to each pending bit in the bytes.
use Prim.Native.Nat.{ℕ, ◌<◌}
use mathlib.Core.Path.{◌≡◌, refl, ap, sym, ◌∙◌}
use mathlib.Core.List.{List}
use Rattle.laws.proofs.RecordsInLists.{walked_at}
use Rattle.rules.specs.Tasks.{nexuses}
use Rattle.rules.specs.Bits.{no_pending}
use Rattle.rules.specs.Rulings.{State, pending_of}
use Rattle.rules.specs.Rules.{ruling, step}
use Rattle.rules.specs.Attentions.{is_set, bit_after, attention}
use Rattle.rules.proofs.Ruled.{step_ruled}
use Rattle.rules.proofs.FairRulings.{tested_ruling}
use Rattle.rules.proofs.WellSays.{says_tested}
use Rattle.rules.proofs.Attentions.{bits_after}
use Rattle.records.specs.Numbers.{pending_from}
use Rattle.records.specs.Records.{nexus_size, pending_in}
use Rattle.records.specs.Tables.{nexuses_at, pendings_from, state_of}
use Rattle.operations.specs.Operations.{Outcome, outcome}
use Rattle.operations.proofs.Carried.{table_after_says}
use Rattle.rules.specs.Types.{Bit, Event}
use Rattle.demands.specs.Seen.{pending_byte}
use Rattle.demands.specs.Demands.{Reaches}
use Rattle.demands.proofs.Refused.{carried_out}

pub pending_is : (b : List ℕ) (i : ℕ) → i < nexuses → pending_of (state_of b) i ≡ pending_from (pending_byte b i)
unfolding state_of pendings_from
pending_is b i h = walked_at nexus_size pending_in pendings_from (λ n l. refl) nexuses i b nexuses_at no_pending h

module _ (t r e : List ℕ) (v : Event) (reaches : Reaches t r e v) where
  -- what the table says after a call is what the rules say
  pub one_step : state_of (outcome t r e).table ≡ step (state_of t) v
  one_step =
      ap (λ (o : Outcome). state_of o.table) (carried_out t r e v reaches)
      ∙ table_after_says t (ruling (state_of t) v) (tested_ruling (state_of t) v (says_tested (state_of t) reaches.table.well))
      ∙ sym (step_ruled (state_of t) v)

  -- each bit of each nexus record after a call, by the event's cause and the bit's rank
  pub bits_seen :
      (i : ℕ) (b : Bit) → i < nexuses
      → is_set (pending_from (pending_byte (outcome t r e).table i)) b
      ≡ bit_after (attention (state_of t) v i) b (is_set (pending_from (pending_byte t i)) b)
  bits_seen i b h =
      ap (λ p. is_set p b) (sym (pending_is (outcome t r e).table i h))
      ∙ ap (λ (s : State). is_set (pending_of s i) b) one_step
      ∙ bits_after (state_of t) v i b reaches.table.well h
      ∙ ap (λ p. bit_after (attention (state_of t) v i) b (is_set p b)) (pending_is t i h)
