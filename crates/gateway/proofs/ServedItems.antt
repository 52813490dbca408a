-- The items of a stream one after the other, by what a reader, a stream and a sink say of each.
use Rattle.std.proofs.Common.{◌≡◌, ◌≤◌, ◌+◌, ℕ, Bool, true, false, ◌&&◌, List, [], ◌∷◌, ◌++◌, Option, Some, None, Ok, Err, refl, ap, subst, ◌∙◌, arith}
use Rattle.std.specs.Prelude.{IsSome}
use Rattle.settings.specs.Configuration.{Configuration}
use Rattle.settings.specs.declared.gateway_conf.GatewayConf.{GatewayConf}
use Rattle.recording.specs.Items.{PlacedItem}
use Rattle.recording.specs.Readers.{ReadsNext, ReaderState, idle_reads, nothing_read}
use Rattle.recording.specs.declared.item_fault.ItemFault.{ItemFault}
use Rattle.recording.specs.declared.limits.TheConstants.{MAX_ITEMS}
use Rattle.gateway.specs.Served.{CountsSink, Serves}
use Rattle.gateway.specs.Streams.{stream_fault_of}
use Rattle.gateway.specs.declared.fault.StreamFault.{StreamFault}
use Rattle.gateway.specs.tools.HeldStreams.{CanMeet, HeldStream, MeetsAndWrites, SaysFinished, stream_held}
use Rattle.gateway.proofs.ServedSoFar.{AreRead, AreServed, read_nothing, served_nothing}
use Rattle.gateway.proofs.GoingOn.{can_meet, read_more, served_more}
use Rattle.gateway.proofs.ServedEnds.{ends_passed, ends_unmet, ends_unread, ends_waiting}

-- some items were read and served
pub record AreDone (conf : Configuration) (left left_now taken taken_now : Option (List ℕ)) (reader : ReaderState) (stream : HeldStream) (all_pass : Bool) : Type 0 where
  pub settings : GatewayConf
  pub settings_are : conf.gateway ≡ Some settings
  pub items : List PlacedItem
  pub read : AreRead left left_now reader items
  pub served : AreServed conf settings taken taken_now stream all_pass items

-- what is read, where the answer is known
pub reads_as : (reader new : ReaderState) (left left_now : Option (List ℕ)) (found known : Bool) → found ≡ known → ReadsNext reader new left left_now (Ok found) → ReadsNext reader new left left_now (Ok known)
reads_as reader new left left_now found known is reads = subst (λ (b : Bool). ReadsNext reader new left left_now (Ok b)) is reads

-- ---- calls that are idle

-- where the first calls weren't idle, nor one that found an item, none was
pub never_idle : (first before now : ℕ) (found : Bool) → before ≤ first → found ≡ true → now ≤ before + idle_reads (Ok found) → now ≤ first
never_idle first before now found none is few =
    let kept : now ≤ before + 0 = subst (λ (b : Bool). now ≤ before + idle_reads (Ok b)) is few in
    omega (arith, none, kept)

-- the last one may have been
pub idle_at_end : (first before now : ℕ) (found : Bool) → before ≤ first → found ≡ false → now ≤ before + idle_reads (Ok found) → now ≤ first + 1
idle_at_end first before now found none is few =
    let once : now ≤ before + 1 = subst (λ (b : Bool). now ≤ before + idle_reads (Ok b)) is few in
    omega (arith, none, once)

-- no more than so many were, where the first weren't
pub idle_at_most : (first before now n : ℕ) → before ≤ first → now ≤ before + n → now ≤ first + n
idle_at_most first before now n none few = omega (arith, none, few)

pub idle_no_more : (first before now : ℕ) → before ≤ first → now ≤ before + 0 → now ≤ first
idle_no_more first before now none few = omega (arith, none, few)

pub idle_within : (first now n : ℕ) → now ≤ first → now ≤ first + n
idle_within first now n none = omega (arith, none)

-- ---- items

some_value : {A : Type 0} (o : Option A) → IsSome o → (x : A) × (o ≡ Some x)
some_value None is = absurd (cc is)
some_value (Some x) is = (x, refl)

pub none_done : (conf : Configuration) (left taken : Option (List ℕ)) (reader : ReaderState) (stream : HeldStream) → stream ≡ stream_held conf → reader ≡ nothing_read → IsSome conf.gateway → AreDone conf left left taken taken reader stream true
none_done conf left taken reader stream held unread is = done (some_value conf.gateway is)
  where
    done : (settings : GatewayConf) × (conf.gateway ≡ Some settings) → AreDone conf left left taken taken reader stream true
    done (settings, are) = record { settings = settings; settings_are = are; items = []; read = read_nothing left reader unread; served = served_nothing conf settings taken stream held }

module _ (conf : Configuration) (left left_now left_new taken taken_now : Option (List ℕ)) (reader new : ReaderState) (stream : HeldStream) (all_pass : Bool)
    (done : AreDone conf left left_now taken taken_now reader stream all_pass) where
  -- what holds for the settings, holds for those of the configuration
  by_settings : (P : GatewayConf → Type 0) → P done.settings → (settings : GatewayConf) → conf.gateway ≡ Some settings → P settings
  by_settings P is settings are =
      let same : done.settings ≡ settings = cc (are, done.settings_are) in
      subst P same is

  held_settings : stream.conf.gateway ≡ Some done.settings
  held_settings = ap (λ (k : Configuration). k.gateway) done.served.conf_is ∙ done.settings_are

  pub done_unread : (own : ItemFault) → ReadsNext reader new left_now left_new (Err own) → (settings : GatewayConf) → conf.gateway ≡ Some settings → Serves conf settings left left_new taken taken_now (Err (stream_fault_of own))
  done_unread own reads = by_settings (λ (settings : GatewayConf). Serves conf settings left left_new taken taken_now (Err (stream_fault_of own)))
      (ends_unread conf done.settings left left_now left_new taken taken_now reader new stream all_pass done.items done.read done.served own reads)

  pub done_passed : ReadsNext reader new left_now left_new (Ok false) → stream.related ≡ None → (settings : GatewayConf) → conf.gateway ≡ Some settings → Serves conf settings left left_new taken taken_now (Ok all_pass)
  done_passed reads free = by_settings (λ (settings : GatewayConf). Serves conf settings left left_new taken taken_now (Ok all_pass))
      (ends_passed conf done.settings left left_now left_new taken taken_now reader new stream all_pass done.items done.read done.served reads free)

  pub done_waiting : (own : StreamFault) → ReadsNext reader new left_now left_new (Ok false) → SaysFinished stream (Err own) → (settings : GatewayConf) → conf.gateway ≡ Some settings → Serves conf settings left left_new taken taken_now (Err own)
  done_waiting own reads finished = by_settings (λ (settings : GatewayConf). Serves conf settings left left_new taken taken_now (Err own))
      (ends_waiting conf done.settings left left_now left_new taken taken_now reader new stream all_pass done.items done.read done.served own reads finished)

  module _ (item : PlacedItem) (reads : ReadsNext reader new left_now left_new (Ok true)) (few : new.count ≤ MAX_ITEMS) (is : Some item ≡ new.item) where
    item_read : AreRead left left_new new (done.items ++ item ∷ [])
    item_read =
        let n = read_more left left_now left_new reader new done.items done.read reads few in
        let same : n.next ≡ item = cc (n.item_is, is) in
        subst (λ (i : PlacedItem). AreRead left left_new new (done.items ++ i ∷ [])) same n.read

    pub done_can : CanMeet stream item
    done_can = can_meet conf done.settings left left_new taken taken_now new stream all_pass done.items item item_read done.served

    module _ (after : HeldStream) (taken_new : Option (List ℕ)) where
      pub done_more : (passes both : Bool) → both ≡ (all_pass && passes) → ((settings : GatewayConf) → stream.conf.gateway ≡ Some settings → MeetsAndWrites settings stream after item taken_now taken_new (Ok passes))
          → AreDone conf left left_new taken taken_new new after both
      done_more passes both is meets = record {
        settings = done.settings;
        settings_are = done.settings_are;
        items = done.items ++ item ∷ [];
        read = item_read;
        served = served_more conf done.settings taken taken_now taken_new stream after all_pass passes both done.items item is done.served (meets done.settings held_settings);
      }

      pub done_unmet : (own : StreamFault) → ((settings : GatewayConf) → stream.conf.gateway ≡ Some settings → MeetsAndWrites settings stream after item taken_now taken_new (Err own)) → (settings : GatewayConf) → conf.gateway ≡ Some settings
          → Serves conf settings left left_new taken taken_new (Err own)
      done_unmet own meets = by_settings (λ (settings : GatewayConf). Serves conf settings left left_new taken taken_new (Err own))
          (ends_unmet conf done.settings left left_new taken taken_now taken_new new stream after all_pass done.items item item_read done.served own (meets done.settings held_settings))

      pub done_kept_sink : (before now : ℕ) (passes : Bool) → ((settings : GatewayConf) → stream.conf.gateway ≡ Some settings → CountsSink {T = Bool} before now (Ok passes)) → now ≡ before
      done_kept_sink before now passes counts = counts done.settings held_settings
