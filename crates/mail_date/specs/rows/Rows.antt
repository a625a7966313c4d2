-- Texts and their dates.
use Rattle.std.specs.Prelude.{◌≡◌, ℕ, codes, List, [], ◌++◌, Some, None, true, false, refl}
use Rattle.mail_date.specs.declared.stamp.Stamp.{Stamp}
use Rattle.mail_date.specs.declared.stamp.Zone.{Zone}
use Rattle.mail_date.specs.Dates.{offset, unknown}
use Rattle.mail_date.specs.Reading.{date_time}
use Rattle.mail_date.specs.Fields.{message_date, no_date, received_date}
use Rattle.mail_date.specs.Internal.{internal_text}
use Rattle.mail_date.specs.InternalBack.{internal_date}

-- of the 27th of November 2026
abbrev that_day : ℕ → ℕ → ℕ → Zone → Stamp
that_day hour minute second zone = record { year = 2026; month = 11; day = 27; hour = hour; minute = minute; second = second; zone = zone }

abbrev utc : Zone
utc = offset false 0 0

-- the first of a month, at midnight
abbrev first_of_month : ℕ → ℕ → ℕ → Stamp
first_of_month year month day = record { year = year; month = month; day = day; hour = 0; minute = 0; second = 0; zone = utc }

-- ---- dates

plain : date_time (codes "Fri, 27 Nov 2026 09:45:48 +0000") ≡ Some (that_day 9 45 48 utc)
unfolding date_time
plain = refl

no_day_name : date_time (codes "27 Nov 2026 09:45:48 +0130") ≡ Some (that_day 9 45 48 (offset false 1 30))
unfolding date_time
no_day_name = refl

no_second : date_time (codes "27 Nov 2026 09:45 -0000") ≡ Some (that_day 9 45 0 unknown)
unfolding date_time
no_second = refl

any_case : date_time (codes "fRI,27NOV 2026 09:45:48GMT") ≡ Some (that_day 9 45 48 utc)
unfolding date_time
any_case = refl

comments : date_time (codes "(a (nested \\) one)) Fri (x) , (y)27(z)Nov 2026(w)09 : (q) 45 (;) : 48 (r) EST (Eastern)") ≡ Some (that_day 9 45 48 (offset true 5 0))
unfolding date_time
comments = refl

open_comment : date_time (codes "27 Nov 2026 09:45:48 +0000 (UTC") ≡ None
unfolding date_time
open_comment = refl

two_digit_year : date_time (codes "1 Jan 49 00:00:00 GMT") ≡ Some (first_of_month 2049 1 1)
unfolding date_time
two_digit_year = refl

of_last_century : date_time (codes "1 Jan 50 00:00:00 UT") ≡ Some (first_of_month 1950 1 1)
unfolding date_time
of_last_century = refl

three_digit_year : date_time (codes "1 Jan 126 00:00:00 UT") ≡ Some (first_of_month 2026 1 1)
unfolding date_time
three_digit_year = refl

before_1900 : date_time (codes "1 Jan 1899 00:00:00 UT") ≡ None
unfolding date_time
before_1900 = refl

five_digit_year : date_time (codes "1 Jan 12026 00:00:00 UT") ≡ None
unfolding date_time
five_digit_year = refl

military : date_time (codes "27 Nov 2026 09:45:48 A") ≡ Some (that_day 9 45 48 unknown)
unfolding date_time
military = refl

no_military : date_time (codes "27 Nov 2026 09:45:48 j") ≡ None
unfolding date_time
no_military = refl

other_zone : date_time (codes "27 Nov 2026 09:45:48 CEST") ≡ Some (that_day 9 45 48 unknown)
unfolding date_time
other_zone = refl

widest_zone : date_time (codes "27 Nov 2026 09:45:48 -9959") ≡ Some (that_day 9 45 48 (offset true 99 59))
unfolding date_time
widest_zone = refl

zone_minutes : date_time (codes "27 Nov 2026 09:45:48 +0060") ≡ None
unfolding date_time
zone_minutes = refl

zone_of_five : date_time (codes "27 Nov 2026 09:45:48 +00000") ≡ None
unfolding date_time
zone_of_five = refl

no_zone : date_time (codes "27 Nov 2026 09:45:48") ≡ None
unfolding date_time
no_zone = refl

leap_day : date_time (codes "29 Feb 2028 00:00:00 +0000") ≡ Some (first_of_month 2028 2 29)
unfolding date_time
leap_day = refl

no_leap_day : date_time (codes "29 Feb 2026 00:00:00 +0000") ≡ None
unfolding date_time
no_leap_day = refl

of_a_century : date_time (codes "29 Feb 2100 00:00:00 +0000") ≡ None
unfolding date_time
of_a_century = refl

of_the_fourth : date_time (codes "29 Feb 2000 00:00:00 +0000") ≡ Some (first_of_month 2000 2 29)
unfolding date_time
of_the_fourth = refl

short_month : date_time (codes "31 Apr 2026 00:00:00 +0000") ≡ None
unfolding date_time
short_month = refl

day_zero : date_time (codes "0 Apr 2026 00:00:00 +0000") ≡ None
unfolding date_time
day_zero = refl

leap_second : date_time (codes "31 Dec 2016 23:59:60 +0000") ≡ None
unfolding date_time
leap_second = refl

midnight : date_time (codes "31 Dec 2016 24:00:00 +0000") ≡ None
unfolding date_time
midnight = refl

one_digit_hour : date_time (codes "31 Dec 2016 9:00:00 +0000") ≡ None
unfolding date_time
one_digit_hour = refl

no_day_of_a_week : date_time (codes "Foo, 31 Dec 2016 09:00:00 +0000") ≡ None
unfolding date_time
no_day_of_a_week = refl

long_month : date_time (codes "31 December 2016 09:00:00 +0000") ≡ None
unfolding date_time
long_month = refl

rubbish_behind : date_time (codes "31 Dec 2016 09:00:00 +0000 x") ≡ None
unfolding date_time
rubbish_behind = refl

empty : date_time [] ≡ None
unfolding date_time
empty = refl

-- ---- headers

abbrev postfix : List ℕ
postfix = codes "Received: from out.example.com (out.example.com [192.0.2.52])\r\n\t(using TLSv1.3 with cipher TLS_AES_128_GCM_SHA256 (128/128 bits))\r\n\tby mx.example.org (Postfix) with ESMTPS id 4XyZ1b2c3dz1\r\n\tfor <bob@example.org>; Fri, 27 Nov 2026 09:45:48 +0000 (UTC)\r\n"

abbrev exim : List ℕ
exim = codes "Received: from [192.0.2.1] (helo=client.example)\r\n\tby mx.example.org with esmtps  (TLS1.3) tls TLS_AES_256_GCM_SHA384\r\n\t(Exim 4.96)\r\n\t(envelope-from <a@b.example>)\r\n\tid 1tF0Qw-000abc-2X\r\n\tfor bob@example.org;\r\n\tFri, 27 Nov 2026 10:45:48 +0100\r\n"

abbrev gmail : List ℕ
gmail = codes "Received: by 2002:a05:6000:1234:b0:386:1cb0:abcd with SMTP id ab12csp1234567wrb;\r\n        Fri, 27 Nov 2026 01:45:48 -0800 (PST)\r\n"

abbrev exchange : List ℕ
exchange = codes "Received: from AM6PR08.example.com (2001:db8:20b:a3::12)\r\n by DB8PR08.example.com (2001:db8:10:b0::20) with\r\n Microsoft SMTP Server (version=TLS1_2,\r\n cipher=TLS_ECDHE_RSA_WITH_AES_256_GCM_SHA384) id 15.20.8182.21; Fri, 27 Nov\r\n 2026 09:45:47 +0000\r\n"

abbrev sendmail : List ℕ
sendmail = codes "Received: (from root@localhost)\n\tby host.example (8.18.1/8.18.1/Submit) id 4AR9jm;\n\tFri, 27 Nov 2026 09:45:48 GMT\n"

abbrev rest : List ℕ
rest = codes "From: a@b.example\r\nSubject: x; y\r\n\r\nReceived: z; 1 Jan 2000 00:00:00 GMT\r\n"

by_postfix : received_date (postfix ++ rest) ≡ Some (that_day 9 45 48 utc)
unfolding received_date date_time
by_postfix = refl

by_exim : received_date (exim ++ rest) ≡ Some (that_day 10 45 48 (offset false 1 0))
unfolding received_date date_time
by_exim = refl

by_gmail : received_date (gmail ++ rest) ≡ Some (that_day 1 45 48 (offset true 8 0))
unfolding received_date date_time
by_gmail = refl

by_exchange : received_date (exchange ++ rest) ≡ Some (that_day 9 45 47 utc)
unfolding received_date date_time
by_exchange = refl

-- with LF alone
by_sendmail : received_date (sendmail ++ rest) ≡ Some (that_day 9 45 48 utc)
unfolding received_date date_time
by_sendmail = refl

-- the first is the last that was written
of_several : received_date (codes "Return-Path: <a@b.example>\r\nX-Received: p; q\r\n" ++ gmail ++ exchange ++ postfix) ≡ Some (that_day 1 45 48 (offset true 8 0))
unfolding received_date date_time
of_several = refl

-- one without a date is not passed over
first_without_date : received_date (codes "Received: by x\r\n" ++ gmail) ≡ None
unfolding received_date date_time
first_without_date = refl

none_in_header : received_date rest ≡ None
unfolding received_date date_time
none_in_header = refl

old_name : received_date (codes "RECEIVED \t: by x; 27 Nov 26 09:45 Z") ≡ Some (that_day 9 45 0 unknown)
unfolding received_date date_time
old_name = refl

semicolons : received_date (codes "Received: by \"a;b\" (c;d\\)e;f); 1 Jan 2000 00:00:00 GMT (g;h)\r\n") ≡ Some (first_of_month 2000 1 1)
unfolding received_date date_time
semicolons = refl

the_last_semicolon : received_date (codes "Received: by a; b; 1 Jan 2000 00:00:00 GMT\r\n") ≡ Some (first_of_month 2000 1 1)
unfolding received_date date_time
the_last_semicolon = refl

-- ---- messages

without_received : message_date rest ≡ no_date
unfolding message_date received_date date_time
without_received = refl

no_text : message_date [] ≡ no_date
unfolding message_date received_date date_time
no_text = refl

-- the first of two
the_first_of_two : message_date (codes "Received: by b; 2 Jan 2000 00:00:00 GMT\r\nReceived: by a; 1 Jan 2000 00:00:00 GMT\r\n\r\n") ≡ first_of_month 2000 1 2
unfolding message_date received_date date_time
the_first_of_two = refl

-- a field with no semicolon, and one with no date behind it; the next is not tried
no_semicolon : message_date (codes "Received: by b\r\nReceived: by a; 1 Jan 2000 00:00:00 GMT\r\n\r\n") ≡ no_date
unfolding message_date received_date date_time
no_semicolon = refl

no_such_day : message_date (codes "Received: by b; 30 Feb 2000 00:00:00 GMT\r\nReceived: by a; 1 Jan 2000 00:00:00 GMT\r\n\r\n") ≡ no_date
unfolding message_date received_date date_time
no_such_day = refl

-- in the body, behind the header's empty line
behind_the_header : message_date (codes "Subject: x\r\n\r\nReceived: by a; 1 Jan 2000 00:00:00 GMT\r\n") ≡ no_date
unfolding message_date received_date date_time
behind_the_header = refl

-- another field's name, and one that is folded
other_names : message_date (codes "X-Received: by b; 2 Jan 2000 00:00:00 GMT\r\nReceived-SPF: pass; 3 Jan 2000 00:00:00 GMT\r\nX: y\r\n Received: by c; 4 Jan 2000 00:00:00 GMT\r\nReceived: by a; 1 Jan 2000 00:00:00 GMT\r\n") ≡ first_of_month 2000 1 1
unfolding message_date received_date date_time
other_names = refl

-- ---- the examples of RFC 5322, appendix A

-- of the 21st of November 1997, -0600
abbrev hello : ℕ → ℕ → ℕ → Stamp
hello hour minute second = record { year = 1997; month = 11; day = 21; hour = hour; minute = minute; second = second; zone = offset true 6 0 }

-- A.4, with trace fields
trace : message_date (codes "Received: from x.y.test\r\n   by example.net\r\n   via TCP\r\n   with ESMTP\r\n   id ABC12345\r\n   for <mary@example.net>;  21 Nov 1997 10:05:43 -0600\r\nReceived: from node.example by x.y.test; 21 Nov 1997 10:01:22 -0600\r\nFrom: John Doe <jdoe@node.example>\r\nTo: Mary Smith <mary@example.net>\r\nSubject: Saying Hello\r\nDate: Fri, 21 Nov 1997 09:55:06 -0600\r\nMessage-ID: <1234@local.node.example>\r\n\r\nThis is a message just to say hello.\r\n") ≡ hello 10 5 43
unfolding message_date received_date date_time
trace = refl

-- A.5, with white space and comments; here as the date of a Received field
abbrev newfoundland : Stamp
newfoundland = record { year = 1969; month = 2; day = 13; hour = 23; minute = 32; second = 0; zone = offset true 3 30 }

white_space : date_time (codes " Thu,\r\n      13\r\n        Feb\r\n          1969\r\n      23:32\r\n               -0330 (Newfoundland Time)") ≡ Some newfoundland
unfolding date_time
white_space = refl

white_space_in_a_field : message_date (codes "Received: from silly.test; Thu,\r\n      13\r\n        Feb\r\n          1969\r\n      23:32\r\n               -0330 (Newfoundland Time)\r\n\r\nTesting.\r\n") ≡ newfoundland
unfolding message_date received_date date_time
white_space_in_a_field = refl

-- A.6.2 and A.6.3, obsolete dates, white space and comments
obsolete_date : date_time (codes " 21 Nov 97 09:55:06 GMT") ≡ Some (record (hello 9 55 6) { zone = utc })
unfolding date_time
obsolete_date = refl

obsolete_comments : date_time (codes " Fri, 21 Nov 1997 09(comment):   55  :  06 -0600") ≡ Some (hello 9 55 6)
unfolding date_time
obsolete_comments = refl

-- ---- as IMAP has them

written : internal_text (that_day 9 45 48 (offset true 8 0)) ≡ codes "27-Nov-2026 09:45:48 -0800"
written = refl

written_short : internal_text (first_of_month 2000 1 1) ≡ codes "01-Jan-2000 00:00:00 +0000"
written_short = refl

-- as the example of FETCH has it (RFC 9051, section 8)
of_the_rfc : internal_text (record { year = 1996; month = 7; day = 17; hour = 2; minute = 44; second = 25; zone = offset true 7 0 }) ≡ codes "17-Jul-1996 02:44:25 -0700"
of_the_rfc = refl

written_none : internal_text no_date ≡ codes "01-Jan-1970 00:00:00 +0000"
written_none = refl

read_back : internal_date (codes "27-Nov-2026 09:45:48 -0800") ≡ Some (that_day 9 45 48 (offset true 8 0))
unfolding internal_date
read_back = refl

-- the example of FETCH again
of_the_rfc_back : internal_date (codes "17-Jul-1996 02:44:25 -0700") ≡ Some (record { year = 1996; month = 7; day = 17; hour = 2; minute = 44; second = 25; zone = offset true 7 0 })
unfolding internal_date
of_the_rfc_back = refl

-- the date of the message that is appended in RFC 3501, section 6.3.11, with a day of one digit
read_space : internal_date (codes " 7-Feb-1994 21:52:25 -0800") ≡ Some (record { year = 1994; month = 2; day = 7; hour = 21; minute = 52; second = 25; zone = offset true 8 0 })
unfolding internal_date
read_space = refl

read_small_letters : internal_date (codes " 1-jan-2000 00:00:00 +0000") ≡ Some (first_of_month 2000 1 1)
unfolding internal_date
read_small_letters = refl

read_two_spaces : internal_date (codes "  1-Jan-2000 00:00:00 +0000") ≡ None
unfolding internal_date
read_two_spaces = refl

read_a_space_too_many : internal_date (codes " 17-Jul-1996 02:44:25 -0700") ≡ None
unfolding internal_date
read_a_space_too_many = refl

read_day_zero : internal_date (codes " 0-Jan-2000 00:00:00 +0000") ≡ None
unfolding internal_date
read_day_zero = refl

read_with_quotes : internal_date (codes "\"17-Jul-1996 02:44:25 -0700\"") ≡ None
unfolding internal_date
read_with_quotes = refl

read_hour_24 : internal_date (codes "17-Jul-1996 24:00:00 -0700") ≡ None
unfolding internal_date
read_hour_24 = refl

read_two_digits_of_a_year : internal_date (codes "17-Jul-96 02:44:25 -0700") ≡ None
unfolding internal_date
read_two_digits_of_a_year = refl

read_more : internal_date (codes "17-Jul-1996 02:44:25 -0700 ") ≡ None
unfolding internal_date
read_more = refl

read_zero : internal_date (codes "01-JAN-2000 00:00:00 +0000") ≡ Some (first_of_month 2000 1 1)
unfolding internal_date
read_zero = refl

read_one_digit : internal_date (codes "1-Jan-2000 00:00:00 +0000") ≡ None
unfolding internal_date
read_one_digit = refl

read_february : internal_date (codes "30-Feb-2000 00:00:00 +0000") ≡ None
unfolding internal_date
read_february = refl

read_named_zone : internal_date (codes "01-Jan-2000 00:00:00 GMT") ≡ None
unfolding internal_date
read_named_zone = refl
