-- The command that a record is, or its first fault.
use Rattle.std.specs.Prelude.{ℕ, ◌-◌, ◌^◌, ◌==◌, if◌then◌else◌, List, [], length, codes, unwrap_or, Result, Ok, Err, bytes_eq}
use Rattle.cns_feed.specs.Common.{Account, Cusip, Day, Member, Price, Rate, Ratio, UnitFault, Activity, day_of, ratio_of, Command, LineFault}
use Rattle.csv.specs.Records.{field_at}
use Rattle.cns_units.specs.Cusip.{cusip_of}
use Rattle.cns_units.specs.declared.money.Money.{Money}
use Rattle.cns_units.specs.declared.shares.Shares.{Shares}
use Rattle.cns_terms.specs.declared.command.Listing.{Listing}
use Rattle.cns_terms.specs.declared.command.Movement.{Movement}
use Rattle.cns_feed.specs.Digits.{in_range, number_in}

-- a record: its fields, each a list of bytes
abbrev pub Record : Type 0
Record = List (List ℕ)

-- what a record is read as
abbrev pub Line : Type 0
Line = Result Command LineFault

infixl 10 ◌>>=◌
-- a field and then what is read after it; the first fault decides
abbrev pub ◌>>=◌ : {A B : Type 0} → Result A LineFault → (A → Result B LineFault) → Result B LineFault
(Ok x) >>= f = f x
(Err e) >>= f = Err e

-- the field at a place, the kind being at 0
abbrev pub field : Record → ℕ → List ℕ
field fields i = unwrap_or (field_at fields i) []

-- the member, 1 to 9999
abbrev pub member_at : Record → ℕ → Result Member LineFault
member_at fields i = number_in 1 9999 (field fields i)

-- the account, 0 to 9999
abbrev pub account_at : Record → ℕ → Result Account LineFault
account_at fields i = number_in 0 9999 (field fields i)

-- the reference of a trade, 1 to 10^18
abbrev pub reference_at : Record → ℕ → Result ℕ LineFault
reference_at fields i = number_in 1 (10 ^ 18) (field fields i)

-- the shares, 1 to 10^9
abbrev pub shares_at : Record → ℕ → Result Shares LineFault
shares_at fields i = number_in 1 (10 ^ 9) (field fields i)

-- the money in cents, 0 to 10^18
abbrev pub money_at : Record → ℕ → Result Money LineFault
money_at fields i = number_in 0 (10 ^ 18) (field fields i)

-- the price in cents, 0 to 10^9
abbrev pub price_at : Record → ℕ → Result Price LineFault
price_at fields i = number_in 0 (10 ^ 9) (field fields i)

-- the rate of a dividend in millionths of a dollar, 1 to 10^11
abbrev pub rate_at : Record → ℕ → Result Rate LineFault
rate_at fields i = number_in 1 (10 ^ 11) (field fields i)

-- the number of a notice, 1 to 2^32 - 1
abbrev pub notice_at : Record → ℕ → Result ℕ LineFault
notice_at fields i = number_in 1 (2 ^ 32 - 1) (field fields i)

-- the shares on one side of a ratio, 1 to 10,000
abbrev pub part_at : Record → ℕ → Result ℕ LineFault
part_at fields i = number_in 1 (10 ^ 4) (field fields i)

-- a text that is no CUSIP is a fault of its own
abbrev pub or_cusip_fault : Result Cusip UnitFault → Result Cusip LineFault
or_cusip_fault (Ok c) = Ok c
or_cusip_fault (Err e) = Err LineFault.Cusip

-- the CUSIP
abbrev pub cusip_at : Record → ℕ → Result Cusip LineFault
cusip_at fields i = or_cusip_fault (cusip_of (field fields i))

-- a text that is no date is a fault of its own
abbrev pub or_date_fault : Result Day UnitFault → Result Day LineFault
or_date_fault (Ok d) = Ok d
or_date_fault (Err e) = Err LineFault.Date

-- the date
abbrev pub date_at : Record → ℕ → Result Day LineFault
date_at fields i = or_date_fault (day_of (field fields i))

-- the ratio, by the places of its new shares and of its old ones
abbrev pub ratio_at : Record → ℕ → ℕ → Result Ratio LineFault
ratio_at fields i j = do
  new ← part_at fields i
  old ← part_at fields j
  in_range (ratio_of new old)

-- what is read of a record with so many fields, the kind among them
abbrev pub counted : {A : Type 0} → ℕ → Record → Result A LineFault → Result A LineFault
counted n fields read = if length fields == n then read else Err LineFault.Count

-- MEMBER: a member
unfoldable pub member_line : Record → Line
member_line fields = counted 2 fields (do
  member ← member_at fields 1
  Ok (Command.Activity (Activity.Member member)))

-- an issue and a price
unfoldable pub listing_at : Record → Result Listing LineFault
listing_at fields = counted 3 fields (do
  issue ← cusip_at fields 1
  price ← price_at fields 2
  Ok (record { issue = issue; price = price }))

-- ISSUE: an issue and its first price
unfoldable pub issue_line : Record → Line
issue_line fields = do
  listing ← listing_at fields
  Ok (Command.Activity (Activity.Issue listing))

-- PRICE: an issue and its new price
unfoldable pub price_line : Record → Line
price_line fields = do
  listing ← listing_at fields
  Ok (Command.Activity (Activity.Price listing))

-- TRADE: the reference, the buyer, the seller, the issue, the shares, the money and the settlement date
unfoldable pub trade_line : Record → Line
trade_line fields = counted 8 fields (do
  reference ← reference_at fields 1
  buyer ← member_at fields 2
  seller ← member_at fields 3
  issue ← cusip_at fields 4
  shares ← shares_at fields 5
  money ← money_at fields 6
  date ← date_at fields 7
  Ok (Command.Activity (Activity.Trade (record { reference = reference; money = money; shares = shares; buyer = buyer; seller = seller; date = date; issue = issue }))))

-- a member, an issue and the shares that move, or that it means to buy in
unfoldable pub movement_at : Record → Result Movement LineFault
movement_at fields = counted 4 fields (do
  member ← member_at fields 1
  issue ← cusip_at fields 2
  shares ← shares_at fields 3
  Ok (record { member = member; issue = issue; shares = shares }))

-- DELIVER: what a member delivers
unfoldable pub deliver_line : Record → Line
deliver_line fields = do
  movement ← movement_at fields
  Ok (Command.Activity (Activity.Deliver movement))

-- RECEIVE: what a member receives
unfoldable pub receive_line : Record → Line
receive_line fields = do
  movement ← movement_at fields
  Ok (Command.Activity (Activity.Receive movement))

-- DIVIDEND: the issue, the record date, the payable date and the rate
unfoldable pub dividend_line : Record → Line
dividend_line fields = counted 5 fields (do
  issue ← cusip_at fields 1
  recorded ← date_at fields 2
  payable ← date_at fields 3
  rate ← rate_at fields 4
  Ok (Command.Activity (Activity.Dividend (record { issue = issue; recorded = recorded; payable = payable; rate = rate }))))

-- SPLIT: the issue, the new shares, the old ones, and the cents in lieu of a new share
unfoldable pub split_line : Record → Line
split_line fields = counted 5 fields (do
  issue ← cusip_at fields 1
  ratio ← ratio_at fields 2 3
  lieu ← price_at fields 4
  Ok (Command.Activity (Activity.Split (record { issue = issue; ratio = ratio; lieu = lieu }))))

-- EXCHANGE: the old issue, the successor, the new shares, the old ones, the cents in lieu of a new share, and the cash for
-- an old one
unfoldable pub exchange_line : Record → Line
exchange_line fields = counted 7 fields (do
  old ← cusip_at fields 1
  successor ← cusip_at fields 2
  ratio ← ratio_at fields 3 4
  lieu ← price_at fields 5
  cash ← price_at fields 6
  Ok (Command.Activity (Activity.Exchange (record { old = old; successor = successor; ratio = ratio; lieu = lieu; cash = cash }))))

-- NOTICE: what a member means to buy in
unfoldable pub notice_line : Record → Line
notice_line fields = do
  movement ← movement_at fields
  Ok (Command.Activity (Activity.Notice movement))

-- WITHDRAW: a notice's number
unfoldable pub withdraw_line : Record → Line
withdraw_line fields = counted 2 fields (do
  notice ← notice_at fields 1
  Ok (Command.Activity (Activity.Withdraw notice)))

-- EXECUTE: a notice's number, the shares that were bought in, and their money
unfoldable pub execute_line : Record → Line
execute_line fields = counted 4 fields (do
  notice ← notice_at fields 1
  shares ← shares_at fields 2
  money ← money_at fields 3
  Ok (Command.Activity (Activity.Execute (record { notice = notice; shares = shares; money = money }))))

-- CLOSE: the next date
unfoldable pub close_line : Record → Line
close_line fields = counted 2 fields (do
  date ← date_at fields 1
  Ok (Command.Activity (Activity.Close date)))

-- POSITION: an account and an issue
unfoldable pub position_line : Record → Line
position_line fields = counted 3 fields (do
  account ← account_at fields 1
  issue ← cusip_at fields 2
  Ok (Command.Position (record { account = account; issue = issue })))

-- STATEMENT: an account and a closed day's date
unfoldable pub statement_line : Record → Line
statement_line fields = counted 3 fields (do
  account ← account_at fields 1
  date ← date_at fields 2
  Ok (Command.Statement account date))

-- the command of a record by its kind, or the first fault: the kind, the count of fields, the fields from left to right
unfoldable pub line_of : Record → Line
line_of fields =
    let kind = field fields 0 in
    if bytes_eq kind (codes "MEMBER") then member_line fields
    else if bytes_eq kind (codes "ISSUE") then issue_line fields
    else if bytes_eq kind (codes "TRADE") then trade_line fields
    else if bytes_eq kind (codes "PRICE") then price_line fields
    else if bytes_eq kind (codes "DELIVER") then deliver_line fields
    else if bytes_eq kind (codes "RECEIVE") then receive_line fields
    else if bytes_eq kind (codes "DIVIDEND") then dividend_line fields
    else if bytes_eq kind (codes "SPLIT") then split_line fields
    else if bytes_eq kind (codes "EXCHANGE") then exchange_line fields
    else if bytes_eq kind (codes "NOTICE") then notice_line fields
    else if bytes_eq kind (codes "WITHDRAW") then withdraw_line fields
    else if bytes_eq kind (codes "EXECUTE") then execute_line fields
    else if bytes_eq kind (codes "CLOSE") then close_line fields
    else if bytes_eq kind (codes "POSITION") then position_line fields
    else if bytes_eq kind (codes "STATEMENT") then statement_line fields
    else Err LineFault.Kind
