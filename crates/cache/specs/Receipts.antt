-- Receipts of calls.
use Rattle.std.specs.Prelude.{◌≡◌, ℕ, List, map, length}
use Rattle.stripe.specs.declared.call.Reply.{Reply}
use Rattle.stripe.specs.History.{Call, Record}
use Rattle.stripe.specs.Seen.{call_of}
use Rattle.cache.specs.declared.receipt.Receipt.{Receipt as ReceiptKept}

-- An answered call. Its record has index `place` in the history of stripe `stripe`.
pub record Receipt : Type 0 where
  pub stripe : ℕ
  pub place : ℕ
  pub call : Call
  pub reply : Reply

abbrev pub receipt_of : ReceiptKept → Receipt
receipt_of t = record { stripe = t.stripe; place = t.place; call = call_of t.call; reply = t.reply }

abbrev pub receipts_of : List ReceiptKept → List Receipt
receipts_of ts = map receipt_of ts

-- The receipt of a record that follows the records `before` in the history of the stripe.
abbrev pub receipt_behind : ℕ → List Record → Record → Receipt
receipt_behind stripe before r = record { stripe = stripe; place = length before; call = r.call; reply = r.reply }

-- `IsOf` holds if the receipt has the call and the reply of the record.
pub record IsOf (r : Record) (t : Receipt) : Type 0 where
  pub call : t.call ≡ r.call
  pub reply : t.reply ≡ r.reply
